-- What the reader's answers mean: a sheet that is taken is a program, and one that is refused is none.
use Rattle.std.proofs.Common.{◌≡◌, ℕ, ◌+◌, ◌*◌, ◌≤◌, List, [], ◌++◌, length, take, drop, Some, None, sym, refl, ap, ◌∙◌, subst, inl, inr, arith}
use Rattle.std.specs.Simd.{first_chunks}
use Rattle.std.proofs.lemmas.List.{drop-drop, drop_at, length-append, length-drop, get_or-drop, ext_get_or}
use Rattle.sheet.specs.Code.{size_of}
use Rattle.sheet.specs.Table.{lines_of}
use Rattle.sheet.specs.Layout.{Program, code_bytes, sheet_bytes}
use Rattle.sheet.specs.Checks.{word_at, header_of, sheet_fault}
use Rattle.sheet.specs.Results.{Bytes}
use Rattle.sheet.specs.Reading.{Laid, Tells, Filled}
use Rattle.sheet.specs.Filling.{Begins, FilledFrom, code_lines}
use Rattle.sheet.specs.Spans.{Spans}
use Rattle.sheet.specs.declared.faults.ReadFault.{ReadFault}
use Rattle.sheet.specs.declared.headers.Header.{Header}
use Rattle.sheet.specs.declared.headers.Sheet.{Sheet}
use Rattle.sheet.specs.declared.lines.Line.{Line}
use Rattle.sheet.specs.declared.lines.Line.TheVariants.{Work}
use Rattle.sheet.proofs.Stands.{Stands, stands_take, stands_self, stands_front}
use Rattle.sheet.proofs.Listed.{lines_size, spans_to_list, front_spans}
use Rattle.sheet.proofs.Sound.{Sheeted, sheeted, code_length, word_of}
use Rattle.sheet.proofs.Complete.{layout_passes}
use Rattle.sheet.proofs.Chunks.{code_chunks}

pub refused : (bs : List ℕ) (f : ReadFault) → Some f ≡ sheet_fault bs → (p : Program) → Laid bs p → ⊥
refused bs f e p laid = let g = layout_passes bs p laid in let z : ◌≡◌ {A = ℕ} 0 1 = cc in omega arith

module _ (bs : List ℕ) (h : Header) (is : h ≡ header_of bs) (bytes : Bytes bs) (none : None ≡ sheet_fault bs) where
  pub whole : Sheeted bs
  whole = sheeted bs bytes (sym none)

  pub taken : (s : Sheet) → s.cells ≡ h.cells → s.lines ≡ h.lines → s.verdict ≡ h.verdict → s.marks.now ≡ take h.marked (drop 14 bs) → (p : Program) × Laid bs p × Tells p s
  taken s c l v m =
      let w = whole in
      let n : h.marked ≡ length w.program.marks = ap (λ y. y.marked) is ∙ w.marked in (
        w.program,
        w.laid,
        record {
          cells = c ∙ ap (λ y. y.cells) is ∙ w.cells;
          lines = l ∙ ap (λ y. y.lines) is ∙ w.lines;
          verdict = v ∙ ap (λ y. y.verdict) is ∙ w.verdict;
          marks = m ∙ ap (λ y. take y (drop 14 bs)) n ∙ stands_take 0 bs 14 w.program.marks w.marks (let long = w.long in omega arith);
        },
      )

-- where the parts of a program lie among its bytes
module _ (bs : List ℕ) (p : Program) (laid : Laid bs p) where
  pub laid_cells : word_at bs 0 ≡ p.cells
  laid_cells = ap (λ y. word_at y 0) laid.bytes ∙ word_of p.cells

  pub laid_marked : word_at bs 2 ≡ length p.marks
  laid_marked = ap (λ y. word_at y 2) laid.bytes ∙ word_of (length p.marks)

  pub laid_lines : word_at bs 4 ≡ size_of p.code
  laid_lines = ap (λ y. word_at y 4) laid.bytes ∙ word_of (size_of p.code)

  pub laid_long : length bs ≡ 14 + length p.marks + 8 * size_of p.code
  laid_long = let l = code_length p.code in ap length laid.bytes ∙ simp length-append (omega arith)

  pub laid_begins : (first : ℕ) (lines : List (List ℕ)) → first ≡ 14 + length p.marks → length lines ≡ size_of p.code →
      lines ≡ first_chunks 8 (length lines) (drop first bs) → Begins lines 0 p.code
  laid_begins first lines e n pieces =
      let rest : drop first bs ≡ code_bytes p.code =
      ap (drop first) laid.bytes ∙ ap (λ y. drop y (sheet_bytes p)) e
      ∙ sym (drop-drop (length p.marks) 14 (sheet_bytes p)) ∙ drop_at p.marks (code_bytes p.code) (length p.marks) refl in
      let is : lines ≡ code_lines p.code = pieces ∙ ap (first_chunks 8 (length lines)) rest ∙ code_chunks p.code (length lines) n in
      record { here = subst (λ y. Stands [] y 0 (code_lines p.code)) (sym is) (stands_self [] (code_lines p.code)); within = omega arith; closes = inl (omega arith) }

-- the table after the whole code has been filled in
pub table_filled : (lines : List (List ℕ)) (r : ℕ) (p : Program) (before after : List Line) → size_of p.code ≤ length before →
    Begins lines 0 p.code → FilledFrom lines 0 before after r → Filled p before after
table_filled lines r p before after room b d =
    let g = d.spans p.code b in
    let k = size_of p.code in
    let rk : r ≡ k = let e₁ = g.0 in omega arith in
    let ls = lines_of 0 p.code in
    let len : length ls ≡ k = lines_size 0 p.code in
    let long = d.long in
    let front = stands_front (Work 0 0 0 0) after ls (spans_to_list after 0 r p.code g.1) (omega arith) in
    let rest : drop (length ls) after ≡ drop k before =
    ap (λ y. drop y after) len ∙
    ext_get_or (Work 0 0 0 0) (drop k after) (drop k before) (simp length-drop (omega arith))
    (λ i l. get_or-drop k after i (Work 0 0 0 0) ∙ d.outside (k + i) (inr (omega arith)) ∙ sym (get_or-drop k before i (Work 0 0 0 0))) in
    record { room = omega arith; lines = front ∙ ap (λ y. ls ++ y) rest }

-- the table of a program, by places
pub filled_spans : (p : Program) (before after : List Line) (n : ℕ) → Filled p before after → n ≡ size_of p.code → Spans after 0 n p.code
filled_spans p before after n f e =
    subst (λ y. Spans after 0 y p.code) (sym e) (front_spans after (drop (size_of p.code) before) p.code f.lines)

pub filled_long : (p : Program) (before after : List Line) → Filled p before after → size_of p.code ≤ length after
filled_long p before after f =
    let l = ap length f.lines ∙ length-append (lines_of 0 p.code) (drop (size_of p.code) before) in
    let n = lines_size 0 p.code in
    omega arith
