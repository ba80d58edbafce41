use Rattle.std.proofs.Common.{◌≡◌, ◌++◌, List, [], ◌∷◌, length, vec_len, refl, sym, ap, ◌∙◌, arith}
use Rattle.std.proofs.lemmas.Bool.{eqb-true}
use Rattle.yaml_lines.specs.declared.mark.Mark.{Mark}
use Rattle.yaml_lines.proofs.mark.joined_marks.Goals as goal

none_of : (ms : List Mark) → length ms ≡ 0 → ms ≡ []
none_of [] e = refl
none_of (m ∷ ms) e = absurd (omega arith)

pub returns-then-is_empty : goal.returns-then-is_empty
returns-then-is_empty c =
    let v = c.args.marks in
    let count : vec_len v ≡ length v.items = omega (arith, v.ok.0) in
    let none : length v.items ≡ 0 =
    sym count ∙ eqb-true (vec_len v) 0 (sym c.is_empty.ensures ∙ c.if-is_empty.true) in
    sym (ap (λ (ms : List Mark). ms ++ c.args.more.items) (none_of v.items none))
