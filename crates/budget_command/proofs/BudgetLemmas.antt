-- The answer on the bytes of an input, from what one pass over its records gives.
use Rattle.std.proofs.Common.{◌≡◌, ◌<◌, ◌≤◌, ◌⊎◌, ℕ, List, [], true, false, length, ap, arith, inl}
use Rattle.std.proofs.Common.{inr, leb, refl, subst, sym, ◌∙◌}
use Rattle.std.proofs.lemmas.Bool.Decides.{leb_tells}
use Rattle.std.specs.Prelude.{Result, Ok, Err}
use Rattle.csv_records.specs.Records.{csv_records}
use Rattle.slo_terms.specs.Judged.{judged_from}
use Rattle.slo_terms.proofs.JudgedLemmas.{AreKept-judged, IsFirstFault-judged, judged-AreKept}
use Rattle.slo_terms.proofs.JudgedLemmas.{judged-IsFirstFault}
use Rattle.sample_book.specs.declared.Row.{Row}
use Rattle.budget_command.specs.Records.{outcome}
use Rattle.budget_command.specs.Lines.{budget_lines}
use Rattle.budget_command.specs.Answer.{IsBudgetAnswer}
use Rattle.budget_command.specs.declared.order.BudgetOrder.{BudgetOrder}
use Rattle.budget_command.specs.declared.fault.RecordFault.{RecordFault}
use Rattle.budget_command.specs.declared.fault.BudgetFault.{BudgetFault}
use Rattle.budget_command.specs.declared.fault.BudgetFault.TheVariants.{BadRecord, TooLarge}
use Rattle.budget_command.specs.declared.fault.BudgetError.{BudgetError}
use Rattle.budget_command.specs.declared.fault.BudgetError.TheVariants.{Fault}
use Rattle.budget_command.specs.declared.TheConstants.{MAX_INPUT_BYTES}

pub answer-lines : (order : BudgetOrder) (bytes : List ℕ) (came : List Row) (text : List ℕ) →
    length bytes ≤ MAX_INPUT_BYTES → judged_from outcome [] 1 (csv_records bytes) ≡ Ok came
    → text ≡ budget_lines order came →
    IsBudgetAnswer order bytes (Ok text)
answer-lines order bytes came text few judged
    lines = (few, came, AreKept-judged outcome (csv_records bytes) came judged, lines)

pub answer-broken : (order : BudgetOrder) (bytes : List ℕ) (number : ℕ) (fault : RecordFault)
    (refusal : BudgetFault) →
    length bytes ≤ MAX_INPUT_BYTES → judged_from outcome [] 1 (csv_records bytes)
    ≡ Err (number, fault) → BadRecord number fault ≡ refusal →
    IsBudgetAnswer order bytes (Err refusal)
answer-broken order bytes number fault refusal few judged is =
    let P : BudgetFault → Type 0 = λ r. IsBudgetAnswer order bytes (Err r) in
    subst P is (few, IsFirstFault-judged outcome (csv_records bytes) number fault judged)

-- the refusal of a record that breaks a rule
pub same_refusal : {T : Type 0} (number place : ℕ) (fault what : RecordFault)
    (refusal : BudgetFault) →
    ◌≡◌ {A = Result T BudgetError} (Err (Fault (BadRecord number fault))) (Err (Fault refusal))
    → number ≡ place → fault ≡ what → BadRecord place what ≡ refusal
same_refusal number place fault what refusal e n f = cc (e, n, f)

-- An input has one answer at most.
pub answer-unique : (order : BudgetOrder) (bytes : List ℕ) (a b : Result (List ℕ) BudgetFault)
    → IsBudgetAnswer order bytes a → IsBudgetAnswer order bytes b → a ≡ b
answer-unique order bytes (Ok text) (Ok other) (few, came, kept, lines)
    (more, more_came, held, rows) =
    let p = judged-AreKept outcome (csv_records bytes) came kept in
    let q = judged-AreKept outcome (csv_records bytes) more_came held in
    let same : came ≡ more_came = cc (p, q) in
    ap Ok (lines ∙ ap (budget_lines order) same ∙ sym rows)
answer-unique order bytes (Ok text) (Err TooLarge) a b = absurd (omega (arith, a.0, b))
answer-unique order bytes (Ok text) (Err (BadRecord number fault)) (few, came, kept, lines)
    (more, first) =
    let p = judged-AreKept outcome (csv_records bytes) came kept in
    let q = judged-IsFirstFault outcome (csv_records bytes) number fault first in
    absurd (cc (p, q))
answer-unique order bytes (Err TooLarge) (Ok text) a b = absurd (omega (arith, a, b.0))
answer-unique order bytes (Err TooLarge) (Err TooLarge) a b = refl
answer-unique order bytes (Err TooLarge) (Err (BadRecord number fault)) a b = absurd
    (omega (arith, a, b.0))
answer-unique order bytes (Err (BadRecord number fault)) (Ok text) (more, first)
    (few, came, kept, lines) =
    let p = judged-AreKept outcome (csv_records bytes) came kept in
    let q = judged-IsFirstFault outcome (csv_records bytes) number fault first in
    absurd (cc (p, q))
answer-unique order bytes (Err (BadRecord number fault)) (Err TooLarge) a b = absurd
    (omega (arith, a.0, b))
answer-unique order bytes (Err (BadRecord number fault)) (Err (BadRecord other cause)) (few, first)
    (more, second) =
    let p = judged-IsFirstFault outcome (csv_records bytes) number fault first in
    let q = judged-IsFirstFault outcome (csv_records bytes) other cause second in
    let same : (number, fault) ≡ (other, cause) = cc (p, q) in
    ap (λ (r : ℕ × RecordFault). Err (BadRecord r.0 r.1)) same

-- Each input has an answer.
pub answer-exists : (order : BudgetOrder) (bytes : List ℕ) → (answer : Result (List ℕ) BudgetFault)
    × IsBudgetAnswer order bytes answer
answer-exists order bytes = by_size (leb_tells (length bytes) MAX_INPUT_BYTES)
  where
    by_rows : length bytes ≤ MAX_INPUT_BYTES → (r : Result (List Row) (ℕ × RecordFault))
        → judged_from outcome [] 1 (csv_records bytes) ≡ r →
        (answer : Result (List ℕ) BudgetFault) × IsBudgetAnswer order bytes answer
    by_rows few (Ok came) e = (
      Ok (budget_lines order came),
      answer-lines order bytes came
          (budget_lines order came) few e refl,
    )
    by_rows few (Err first) e = (
      Err (BadRecord first.0 first.1),
      answer-broken order bytes first.0
          first.1 (BadRecord first.0 first.1) few e refl,
    )

    by_size : ((leb (length bytes) MAX_INPUT_BYTES ≡ true) × (length bytes ≤ MAX_INPUT_BYTES))
        ⊎ ((leb (length bytes) MAX_INPUT_BYTES ≡ false) × (MAX_INPUT_BYTES < length bytes)) →
        (answer : Result (List ℕ) BudgetFault) × IsBudgetAnswer order bytes answer
    by_size (inl small) = by_rows small.1 (judged_from outcome [] 1 (csv_records bytes)) refl
    by_size (inr large) = (Err TooLarge, large.1)
