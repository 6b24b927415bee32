-- Passes over all the lines, and the marking that they end in.
use Rattle.std.proofs.Common.{◌≡◌, ℕ, Bool, false, List, [], sym, subst}
use Rattle.sheet.specs.Blocks.{HasCode}
use Rattle.sheet.specs.Code.{Code}
use Rattle.sheet.specs.declared.block.Block.{Block}
use Rattle.marking.specs.Rules.{AtLeast, Owns, Rules, Least}
use Rattle.marking.specs.Spread.{marking, Below, FollowsUnder, Passed}
use Rattle.marking.proofs.Order.{Laws, above_none}
use Rattle.marking.proofs.Contexts.{to_conditions, from_conditions}

module _ {M : Type 0} {join : M → M → M} {none : M} {rank : M → ℕ} {height : ℕ} (l : Laws join none rank height) (own : ℕ → M) (marks : List ℕ) (whole : Block) where
  -- no mark of the table is above a marking that meets the rules
  abbrev pub Under : List M → Type 0
  Under ts = (c : Code) → HasCode whole c → (m : ℕ → M) → Rules join own m marks c → Below join none ts m

  -- a pass that no condition stands around
  module _ (ts us : List M) (w : M) (r : Bool) (bare : w ≡ none) (d : Passed join none rank whole w ts us r) (low : Under ts) where
    from_rules : (c : Code) (m : ℕ → M) → Rules join own m marks c → FollowsUnder join m w c
    from_rules c m k = from_conditions l m w [] (λ y _. subst (AtLeast join y) (sym bare) (above_none l y)) c k.follows

    pub pass_under : Under us
    pass_under c h m k = d.below c h m (from_rules c m k) (low c h m k)

    pub least_end : r ≡ false → Owns join own (marking none ts) marks → (c : Code) → HasCode whole c → Least join own (marking none us) marks c
    least_end e o c h =
        subst (λ y. Least join own (marking none y) marks c) (sym (d.moved.still e))
        record {
          meets = record { owns = o; follows = to_conditions l (marking none ts) w [] tt c (d.meets e c h) };
          least = low c h;
        }
