-- Sets of cells, and how they are joined.
use Rattle.std.specs.Prelude.{ℕ, ◌^◌, ◌<◌, bit_or, nat_lt}
use Rattle.std.proofs.Common.{lit<}
use Rattle.std.proofs.lemmas.Nat.{pow_below, or_lt}
use Rattle.std.proofs.lemmas.Bool.{cond_both, ltb-true}
use Rattle.marking.specs.Members.{only}
use Rattle.marking.specs.declared.origins.Origins.{Origins}

abbrev pub no_origins : Origins
no_origins = record { members = 0; fits = lit< tt }

abbrev pub own_origin : ℕ → Origins
own_origin c =
    record {
      members = only c;
      fits = cond_both (nat_lt c 64) (2 ^ c) 0 (λ x. x < 2 ^ 64) (λ e. pow_below c 64 (ltb-true c 64 e)) (λ e. lit< tt);
    }

abbrev pub union : Origins → Origins → Origins
union a b = record { members = bit_or a.members b.members; fits = or_lt 64 a.members b.members a.fits b.fits }
