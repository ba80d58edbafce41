-- Requests that come, and commands that are accepted.
use Rattle.std.proofs.Common.{◌≡◌, ℕ, Bool, true, false, cond, List, [], ◌∷◌, refl, sym, ap}
use Rattle.std.proofs.Common.{◌∙◌, subst, Option, Some, None, nat_lt, true≢false}
use Rattle.std.proofs.lemmas.Bool.{lt-ltb}
use Rattle.slo_limits.specs.declared.TheConstants.{MAX_JOURNAL_BYTES}
use Rattle.record_form.specs.declared.Command.{Command}
use Rattle.record_form.specs.declared.Entry.{Entry}
use Rattle.record_form.specs.declared.Outcome.{Outcome}
use Rattle.record_form.specs.declared.Outcome.TheVariants.{JournalFull}
use Rattle.record_form.specs.declared.Request.TheVariants.{Change}
use Rattle.office_history.specs.declared.Judgement.TheVariants.{Accepted}
use Rattle.office_history.specs.History.{Office, moment_of, end_of, tail_of}
use Rattle.office_history.specs.Legal.{IsLegal, MayFollow, office, empty}
use Rattle.office_history.specs.Outcomes.{outcome_by, outcome_of}
use Rattle.office_counter.specs.Steps.{Comes, past, comes, with_made, made_by, needed_for}
use Rattle.history_laws.specs.Judged.{OneJudgement}
use Rattle.export_terms.specs.Moves.{moves}
use Rattle.export_laws.specs.Replay.{after, after_all, AreAccepted, IsEqualOffice, entry_at}
use Rattle.export_laws.specs.Coming.{AreOutcomes, Come, ComingMakesEqual, IsNotFull}
use Rattle.export_laws.proofs.Assembly.{Laws}
use Rattle.export_laws.proofs.Whole.{all_made, legal_after}

-- where there is room, an accepted command makes its entry, and answers as accepted
made_of : (o : Office) (e : Entry) (outcome : Outcome) → outcome ≡ outcome_by o e Accepted
    → IsNotFull outcome
    → (made_by o e Accepted ≡ Some e) × (outcome ≡ outcome_of o e.moment e.command)
made_of o e outcome is room = by (nat_lt MAX_JOURNAL_BYTES (needed_for o e)) is
  where
    by : (b : Bool) → outcome ≡ cond b (JournalFull (needed_for o e) (tail_of o.history))
        (outcome_of o e.moment e.command)
        → (cond b None (Some e) ≡ Some e) × (outcome ≡ outcome_of o e.moment e.command)
    by true h = absurd (room (needed_for o e) (tail_of o.history) h)
    by false h = (refl, h)

-- what a command comes to that may follow
comes_to : OneJudgement → (o : Office) (r : ℕ) (c : Command) (outcome : Outcome)
    (made : Option Entry) → MayFollow o (entry_at (moment_of o r) c)
    → Comes o r (Change c) outcome made → IsNotFull outcome
    → (with_made o made ≡ after o r c) × (outcome ≡ outcome_of o (moment_of o r) c)
comes_to one o r c outcome made may (past late is none) room = absurd (true≢false
    (sym (lt-ltb (moment_of o r) (end_of o.origin) may.in_range) ∙ late))
comes_to one o r c outcome made may (comes early at) room =
    let is : at.0 ≡ Accepted = one o (moment_of o r) c at.0 Accepted at.1 may.accepted in
    let e : Entry = entry_at (moment_of o r) c in
    let m = made_of o e outcome (at.2 ∙ ap (outcome_by o e) is) room in
    (ap (with_made o) (at.3 ∙ ap (made_by o e) is ∙ m.0), m.1)

pub coming_once : OneJudgement → (o : Office) (cs : List Command) (rs : List ℕ)
    (outcomes : List Outcome) (last : Office) → AreAccepted o cs rs → Come o cs rs outcomes last
    → AreOutcomes o cs rs outcomes × (last ≡ after_all o cs rs)
coming_once one o [] [] [] last a h = (tt, h)
coming_once one o [] [] (j ∷ js) last a h = absurd h
coming_once one o [] (r ∷ rs) js last a h = absurd a
coming_once one o (c ∷ cs) [] js last a h = absurd a
coming_once one o (c ∷ cs) (r ∷ rs) [] last a h = absurd h
coming_once one o (c ∷ cs) (r ∷ rs) (outcome ∷ outcomes) last a h =
    let t = comes_to one o r c outcome h.0 a.0 h.1 h.2 in
    let rest = coming_once one (after o r c) cs rs outcomes last a.1
    (subst (λ (p : Office). Come p cs rs outcomes last) t.0 h.3) in
    ((t.1, rest.0), rest.1)

pub coming_makes_equal : Laws → OneJudgement → ComingMakesEqual
coming_makes_equal laws one origin h readings outcomes last legal small at come =
    let all = all_made laws origin h readings legal small at in
    let is = coming_once one (office origin []) (moves (office origin h)) readings outcomes last
    all.accepted come in (
      is.0,
      subst (IsEqualOffice (office origin h)) (sym is.1) all.equal,
      subst (λ (o : Office). IsLegal origin o.history) (sym is.1)
          (legal_after origin (office origin []) (moves (office origin h)) readings refl empty
          all.accepted),
    )
