-- A text of documents has one answer.
use Rattle.std.proofs.Common.{◌≡◌, ◌⊎◌, inl, inr, ℕ, List, ap, sym, refl, ◌∙◌}
use Rattle.std.specs.Prelude.{Result, Ok, Err}
use Rattle.record_form.specs.declared.Refusal.{Refusal}
use Rattle.office_history.specs.Definitions.{Definition, IsDefinition, IsRefused, Known}
use Rattle.definition_verdict.proofs.VerdictLemmas.{no_refusal, one_definition, one_refusal}
use Rattle.check_command.specs.Answer.{IsCheckAnswer, nothing_known}
use Rattle.check_command.specs.Lines.{check_lines}

pub check-unique : (bytes : List ℕ) (a b : Result (List ℕ) Refusal) → IsCheckAnswer bytes a
    → IsCheckAnswer bytes b → a ≡ b
check-unique bytes (Ok text) (Ok other) (made, is, lines) (again, also, rows) =
    let same = one_definition nothing_known bytes made again is also in
    ap Ok (lines ∙ ap (λ (d : Definition). check_lines d.documents d.objects) same ∙ sym rows)
check-unique bytes (Ok text) (Err refusal) (made, is, lines) b =
    absurd (no_refusal nothing_known bytes made refusal is b)
check-unique bytes (Err refusal) (Ok text) a (made, is, lines) =
    absurd (no_refusal nothing_known bytes made refusal is a)
check-unique bytes (Err refusal) (Err other) a b =
    ap Err (one_refusal nothing_known bytes refusal other a b)

-- what a text defines, or why it is refused
abbrev HasVerdict : Known → List ℕ → Type 0
HasVerdict known text = ((made : Definition) × IsDefinition known text made)
    ⊎ ((refusal : Refusal) × IsRefused known text refusal)

pub check-some : ((known : Known) (text : List ℕ) → HasVerdict known text) → (bytes : List ℕ)
    → (answer : Result (List ℕ) Refusal) × IsCheckAnswer bytes answer
check-some law bytes = by (law nothing_known bytes)
  where
    by : HasVerdict nothing_known bytes → (answer : Result (List ℕ) Refusal)
        × IsCheckAnswer bytes answer
    by (inl (made, is)) = (Ok (check_lines made.documents made.objects), (made, is, refl))
    by (inr (refusal, is)) = (Err refusal, is)
