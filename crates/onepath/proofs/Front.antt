-- The step table by places, `Holds`, and as a list, `steps_of`, are the same table.
use Rattle.std.proofs.Common.{◌≡◌, ℕ, ◌+◌, ◌≤◌, Bool, true, false, List, ◌∷◌, ◌++◌, length, drop, sym, refl, ap, ◌∙◌, subst, arith}
use Rattle.std.proofs.lemmas.List.{length-append, length-drop, get_or-drop, ext_get_or}
use Rattle.sheet.specs.Code.{Code, stop, work, literal, choose, repeat, size_of}
use Rattle.sheet.proofs.Stands.{Stands, stands_append, stands_split, stands_self, stands_front, stands_moved}
use Rattle.onepath.specs.Cover.{loop_covered, level_in, loops_in}
use Rattle.onepath.specs.Own.{if_head, if_middle, loop_test, loop_back, loop_end}
use Rattle.onepath.specs.Listed.{steps_of}
use Rattle.onepath.specs.Holds.{step_at, Holds, LoopEnd}
use Rattle.onepath.specs.declared.steps.Step.{Step}
use Rattle.onepath.specs.declared.steps.Step.TheVariants.{Jump}

abbrev Here : List Step → ℕ → List Step → Type 0
Here = Stands (Jump 0)

ends_stand : (b : Bool) (ts : List Step) (k x l m e : ℕ) → LoopEnd b ts k x l m e → (e ≡ m + length (loop_end b k x l)) × Here ts m (loop_end b k x l)
ends_stand true ts k x l m e h = (h.1, (h.0, tt))
ends_stand false ts k x l m e h = (omega (arith, h), tt)

module _ (cov : ℕ → Bool) (ts : List Step) where
  pub holds_stand : (k d l i j : ℕ) (c : Code) → Holds cov ts k d l i j c → (j ≡ i + length (steps_of cov k d l i c)) × Here ts i (steps_of cov k d l i c)
  holds_stand k d l i j stop h = (omega (arith, h), tt)
  holds_stand k d l i j (work t o a b r) h = let f = holds_stand k d (l + 1) (i + 1) j r h.1 in (omega (arith, f.0), (h.0, f.1))
  holds_stand k d l i j (literal t n r) h = let f = holds_stand k d (l + 1) (i + 1) j r h.1 in (omega (arith, f.0), (h.0, f.1))
  holds_stand k d l i j (choose x p q r) h =
      let b = cov x in
      let own = level_in b k in
      let else = l + 1 + size_of p in
      let end = else + 1 + size_of q in
      let f = holds_stand (level_in (cov x) k) d (l + 1) (i + 1) h.0 p h.3 in
      let ps = steps_of cov own d (l + 1) (i + 1) p in
      let m = i + 1 + length ps in
      let g = holds_stand (level_in (cov x) k) d (else + 1) (m + 1) h.1 q (subst (λ y. Holds cov ts own d (else + 1) (y + 1) h.1 q) f.0 h.5) in
      let qs = steps_of cov own d (else + 1) (m + 1) q in
      let e = m + 1 + length qs in
      let w = holds_stand k d (end + 1) e j r (subst (λ y. Holds cov ts k d (end + 1) y j r) g.0 h.6) in
      let rs = steps_of cov k d (end + 1) e r in
      let hd : step_at ts i ≡ if_head b own x (m + 1) = subst (λ y. step_at ts i ≡ if_head b own x (y + 1)) f.0 h.2 in
      let md : step_at ts m ≡ if_middle b own e = subst (λ y. step_at ts y ≡ if_middle b own e) f.0 (subst (λ y. step_at ts h.0 ≡ if_middle b own y) g.0 h.4) in (
        simp length-append (omega (arith, w.0)),
        (hd, stands_append (Jump 0) ts (i + 1) ps (if_middle b own e ∷ (qs ++ rs)) f.1 (md, stands_append (Jump 0) ts (m + 1) qs rs g.1 w.1)),
      )
  holds_stand k d l i j (repeat x n p r) h =
      let b = loop_covered cov k x in
      let own = level_in b k in
      let end = l + 1 + size_of p in
      let f = holds_stand (level_in (loop_covered cov k x) k) (loops_in (loop_covered cov k x) d) (l + 1) (i + 2) h.0 p h.4 in
      let ps = steps_of cov own (loops_in b d) (l + 1) (i + 2) p in
      let m = i + 2 + length ps in
      let es = loop_end b own x l in
      let e = m + 1 + length es in
      let g = ends_stand b ts own x l (m + 1) h.1 (subst (λ y. LoopEnd b ts own x l (y + 1) h.1) f.0 h.6) in
      let w = holds_stand k d (end + 1) e j r (subst (λ y. Holds cov ts k d (end + 1) y j r) g.0 h.7) in
      let rs = steps_of cov k d (end + 1) e r in
      let bs = ps ++ (loop_back b own n (i + 1) ∷ (es ++ rs)) in
      let md : step_at ts m ≡ loop_back b own n (i + 1) = subst (λ y. step_at ts y ≡ loop_back b own n (i + 1)) f.0 h.5 in
      let tail : Here ts (i + 2) bs = stands_append (Jump 0) ts (i + 2) ps (loop_back b own n (i + 1) ∷ (es ++ rs)) f.1 (md, stands_append (Jump 0) ts (m + 1) es rs g.1 w.1) in (
        simp length-append (omega (arith, w.0)),
        (h.2, (subst (λ y. step_at ts (i + 1) ≡ loop_test b own d x n (y + 1) l) f.0 h.3, stands_moved (Jump 0) ts (i + 2) (i + 1 + 1) bs (omega arith) tail)),
      )

ends_listed : (b : Bool) (ts : List Step) (k x l m : ℕ) → Here ts m (loop_end b k x l) → LoopEnd b ts k x l m (m + length (loop_end b k x l))
ends_listed true ts k x l m h = (h.0, omega arith)
ends_listed false ts k x l m h = omega arith

module _ (cov : ℕ → Bool) (ts : List Step) where
  pub stand_holds : (k d l i j : ℕ) (c : Code) → j ≡ i + length (steps_of cov k d l i c) → Here ts i (steps_of cov k d l i c) → Holds cov ts k d l i j c
  stand_holds k d l i j stop g h = omega arith
  stand_holds k d l i j (work t o a b r) g h = (h.0, stand_holds k d (l + 1) (i + 1) j r (omega arith) h.1)
  stand_holds k d l i j (literal t n r) g h = (h.0, stand_holds k d (l + 1) (i + 1) j r (omega arith) h.1)
  stand_holds k d l i j (choose x p q r) g h =
      let b = cov x in
      let own = level_in b k in
      let else = l + 1 + size_of p in
      let end = else + 1 + size_of q in
      let ps = steps_of cov own d (l + 1) (i + 1) p in
      let m = i + 1 + length ps in
      let qs = steps_of cov own d (else + 1) (m + 1) q in
      let e = m + 1 + length qs in
      let rs = steps_of cov k d (end + 1) e r in
      let s = stands_split (Jump 0) ts (i + 1) ps (if_middle b own e ∷ (qs ++ rs)) h.1 in
      let u = stands_split (Jump 0) ts (m + 1) qs rs s.1.1 in
      let long : j ≡ e + length rs = omega (arith, simp length-append at g) in
      (m, e, h.0, stand_holds (level_in (cov x) k) d (l + 1) (i + 1) m p refl s.0, s.1.0, stand_holds (level_in (cov x) k) d (else + 1) (m + 1) e q refl u.0, stand_holds k d (end + 1) e j r long u.1)
  stand_holds k d l i j (repeat x n p r) g h =
      let b = loop_covered cov k x in
      let own = level_in b k in
      let end = l + 1 + size_of p in
      let ps = steps_of cov own (loops_in b d) (l + 1) (i + 2) p in
      let m = i + 2 + length ps in
      let es = loop_end b own x l in
      let e = m + 1 + length es in
      let rs = steps_of cov k d (end + 1) e r in
      let bs = loop_back b own n (i + 1) ∷ (es ++ rs) in
      let s = stands_split (Jump 0) ts (i + 2) ps bs (stands_moved (Jump 0) ts (i + 1 + 1) (i + 2) (ps ++ bs) (omega arith) h.1.1) in
      let u = stands_split (Jump 0) ts (m + 1) es rs s.1.1 in
      let long : j ≡ e + length rs = omega (arith, simp length-append at g) in
      (m, e, h.0, h.1.0, stand_holds (level_in (loop_covered cov k x) k) (loops_in (loop_covered cov k x) d) (l + 1) (i + 2) m p refl s.0, s.1.0, ends_listed b ts own x l (m + 1) u.0, stand_holds k d (end + 1) e j r long u.1)

-- a table that begins with the code's steps holds them
pub front_holds : (cov : ℕ → Bool) (ts us : List Step) (k d l : ℕ) (c : Code) → ts ≡ steps_of cov k d l 0 c ++ us → Holds cov ts k d l 0 (length (steps_of cov k d l 0 c)) c
front_holds cov ts us k d l c e =
    let s = steps_of cov k d l 0 c in
    stand_holds cov ts k d l 0 (length s) c (omega arith)
    (subst (λ y. Here y 0 s) (sym e) (stands_split (Jump 0) (s ++ us) 0 s us (stands_self (Jump 0) (s ++ us))).0)

-- two tables that agree from r on
same_past : (ts us : List Step) (r : ℕ) → length us ≡ length ts → ((x : ℕ) → r ≤ x → step_at us x ≡ step_at ts x) → drop r us ≡ drop r ts
same_past ts us r l h =
    ext_get_or (Jump 0) (drop r us) (drop r ts) (simp length-drop (omega arith))
    (λ x _. get_or-drop r us x (Jump 0) ∙ h (r + x) (omega arith) ∙ sym (get_or-drop r ts x (Jump 0)))

pub front_steps : (cov : ℕ → Bool) (ts us : List Step) (k d l r : ℕ) (c : Code) → Holds cov us k d l 0 r c → r ≤ length us → length us ≡ length ts →
    ((x : ℕ) → r ≤ x → step_at us x ≡ step_at ts x) → us ≡ steps_of cov k d l 0 c ++ drop r ts
front_steps cov ts us k d l r c h lr lt above =
    let s = steps_of cov k d l 0 c in
    let f = holds_stand cov us k d l 0 r c h in
    let e : length s ≡ r = omega (arith, f.0) in
    stands_front (Jump 0) us s f.1 (omega (arith, e)) ∙ ap (λ y. s ++ drop y us) e ∙ ap (λ y. s ++ y) (same_past ts us r lt above)
