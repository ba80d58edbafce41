-- The place that an asking added holds its entry.
use Rattle.std.proofs.Common.{◌≡◌, ℕ, Bool, true, false, List, [], ◌∷◌, ◌++◌, length}
use Rattle.std.proofs.Common.{Some, None, cond, get_or, refl, sym, ap, ◌∙◌, append_assoc}
use Rattle.std.proofs.Common.{length-append, arith}
use Rattle.std.specs.Prelude.{slice_get}
use Rattle.std.proofs.Math.Seq.{get_or-append_seam}
use Rattle.std.proofs.lemmas.Option.{slice_get-get_or}
use Rattle.record_form.specs.declared.Command.{Command}
use Rattle.record_form.specs.declared.Entry.{Entry}
use Rattle.record_form.specs.declared.Outcome.{Outcome}
use Rattle.record_form.specs.declared.Query.{Query}
use Rattle.record_form.specs.declared.Request.TheVariants.{Change, Ask}
use Rattle.office_history.specs.History.{Office, moment_of, with_entry}
use Rattle.office_history.specs.declared.Judgement.{Judgement}
use Rattle.office_history.specs.declared.Judgement.TheVariants.{Accepted, Refused, Same}
use Rattle.office_counter.specs.Laws.{Extends}
use Rattle.office_counter.specs.Steps.{Comes, Does, Standing, Step, acts, comes, entry_of, fails}
use Rattle.office_counter.specs.Steps.{lacks, made_by, past, with_others}
use Rattle.office_counter.proofs.Steps.{extends_with_others}
use Rattle.turn_counter.specs.Holding.{HoldsEntry}

-- what stands behind these
pub at_seam : (xs : List Entry) (y : Entry) (ys : List Entry)
    → slice_get (xs ++ y ∷ ys) (length xs) ≡ Some y
at_seam xs y ys =
    slice_get-get_or (xs ++ y ∷ ys) (length xs) y (omega (arith, length-append xs (y ∷ ys)))
    ∙ ap Some (get_or-append_seam xs y ys y)

same_last : (xs : List ℕ) (a b : ℕ) → xs ++ a ∷ [] ≡ xs ++ b ∷ [] → a ≡ b
same_last xs a b same =
    sym (get_or-append_seam xs a [] 0) ∙ ap (λ (l : List ℕ). get_or l (length xs) 0) same
    ∙ get_or-append_seam xs b [] 0

unless : (b : Bool) (x e : Entry) → Some e ≡ cond b None (Some x) → e ≡ x
unless true x e made = absurd cc
unless false x e made = cc

judged : (point : Office) (x e : Entry) (j : Judgement) → Some e ≡ made_by point x j → e ≡ x
judged point x e (Refused refusal) made = absurd cc
judged point x e (Same outcome) made = absurd cc
judged point x e Accepted made = unless _ x e made

pub made_is : (point : Office) (reading : ℕ) (command : Command) (outcome : Outcome) (e : Entry)
    → Comes point reading (Change command) outcome (Some e)
    → e ≡ entry_of (moment_of point reading) command
made_is point reading command outcome e (past at told none) = absurd cc
made_is point reading command outcome e (comes at (j, judges, told, made)) =
    judged point (entry_of (moment_of point reading) command) e j made

none_made : (point : Office) (reading : ℕ) (query : Query) (outcome : Outcome) (e : Entry)
    → Comes point reading (Ask query) outcome (Some e) → ⊥
none_made point reading query outcome e (past at told none) = absurd cc
none_made point reading query outcome e (comes at (answers, none)) = absurd cc

module _ (old mid : Standing) (reading : ℕ) (command : Command) (outcome : Outcome)
    (last : Office) (place : ℕ) (own : mid.own ≡ old.own ++ place ∷ [])
    (stays : Extends mid.office last) where
  not_still : mid.own ≡ old.own → ⊥
  not_still same =
      omega (arith, ap length same, ap length own, length-append old.own (place ∷ []))

  held_at : (point : Office) (e : Entry) → Extends old.office point
      → mid.office ≡ with_entry point e → mid.own ≡ old.own ++ length point.history ∷ []
      → e ≡ entry_of (moment_of point reading) command
      → HoldsEntry old.office reading command last place
  held_at point e goes_on grows added is =
      let at : place ≡ length point.history = same_last old.own _ _ (sym own ∙ added) in
      let all : last.history ≡ point.history ++ e ∷ stays.more =
      stays.history ∙ ap (λ (o : Office). o.history ++ stays.more) grows
      ∙ append_assoc point.history (e ∷ []) stays.more in
      record {
        point = point;
        goes_on = goes_on;
        behind = at;
        holds = ap (λ (n : ℕ). slice_get last.history n) at
            ∙ ap (λ (l : List Entry). slice_get l (length point.history)) all
            ∙ at_seam point.history e stays.more ∙ ap Some is;
      }

  held : (point : Office) → Extends old.office point
      → Does point reading (Change command) outcome old mid
      → HoldsEntry old.office reading command last place
  held point goes_on (acts None came grows added) = absurd (not_still added)
  held point goes_on (acts (Some e) came grows added) =
      held_at point e goes_on grows added (made_is point reading command outcome e came)
  held point goes_on (lacks told grows same) = absurd (not_still same)
  held point goes_on (fails told change timely rose grows same) = absurd (not_still same)

pub own_entries_stay : (old : Standing) (reading : ℕ) (command : Command) (outcome : Outcome)
    (mid : Standing) (last : Office) (place : ℕ)
    → Step old reading (Change command) outcome mid → mid.own ≡ old.own ++ place ∷ []
    → Extends mid.office last → HoldsEntry old.office reading command last place
own_entries_stay old reading command outcome mid last place step own stays =
    let point = with_others old.office step.others in
    held old mid reading command outcome last place own stays point
    (extends_with_others old.office point step.others refl) step.does

owns_nothing : (point : Office) (reading : ℕ) (query : Query) (outcome : Outcome)
    (old new : Standing) → Does point reading (Ask query) outcome old new → new.own ≡ old.own
owns_nothing point reading query outcome old new (acts None came grows same) = same
owns_nothing point reading query outcome old new (acts (Some e) came grows added) =
    absurd (none_made point reading query outcome e came)
owns_nothing point reading query outcome old new (lacks told grows same) = same
owns_nothing point reading query outcome old new (fails told change timely rose grows same) = same

pub queries_own_nothing : (old : Standing) (reading : ℕ) (query : Query) (outcome : Outcome)
    (new : Standing) → Step old reading (Ask query) outcome new → new.own ≡ old.own
queries_own_nothing old reading query outcome new step =
    owns_nothing (with_others old.office step.others) reading query outcome old new step.does
