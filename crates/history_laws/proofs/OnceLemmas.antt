-- A change that a legal history has already changes nothing more.
use Rattle.std.proofs.Common.{◌≡◌, ◌∙◌, ℕ, ◌≤◌, ◌||◌, Bool, true, false, cond, List, [], ◌∷◌, ◌++◌}
use Rattle.std.proofs.Common.{Option, Some, None, refl, sym, ap, subst, append_assoc, length}
use Rattle.std.proofs.Common.{arith, nat_lt}
use Rattle.std.specs.List.{AllByRecursion, list_any}
use Rattle.std.proofs.lemmas.Bool.{eq-eqb, or_right}
use Rattle.slo_limits.specs.declared.TheConstants.{MAX_ENTRIES}
use Rattle.sample_book.specs.declared.Row.{Row}
use Rattle.sample_book.specs.History.{is_put}
use Rattle.sample_book.specs.Puts.{verdicts}
use Rattle.record_form.specs.declared.Command.{Command}
use Rattle.record_form.specs.declared.Command.TheVariants.{Define, Remove, PutZone, Samples}
use Rattle.record_form.specs.declared.Command.TheVariants.{Exclude, Lift, Tick, Take, Upgrade}
use Rattle.record_form.specs.declared.Entry.{Entry}
use Rattle.record_form.specs.declared.Outcome.{Outcome}
use Rattle.record_form.specs.declared.Outcome.TheVariants.{Changed}
use Rattle.record_form.specs.declared.LimitName.TheVariants as limits
use Rattle.record_form.specs.declared.Refusal.{Refusal}
use Rattle.record_form.specs.declared.Refusal.TheVariants as refusals
use Rattle.office_history.specs.declared.Judgement.{Judgement}
use Rattle.office_history.specs.declared.Judgement.TheVariants.{Accepted, Same, Refused}
use Rattle.office_history.specs.Batches.{batch_outcome}
use Rattle.office_history.specs.Catalog.{catalog_in}
use Rattle.office_history.specs.History.{present, rows_in, rows_of}
use Rattle.office_history.specs.Judges.{Judges}
use Rattle.office_history.specs.Legal.{IsLegal, office}
use Rattle.office_history.specs.Notices.{is_taken, is_taking}
use Rattle.office_history.specs.Verdicts.{accepted, samples_fault, unless_refused}
use Rattle.office_history.specs.Versions.{is_upgraded}
use Rattle.office_derived.specs.Derived.{RowIsRead}
use Rattle.sample_changes.specs.Once as samples
use Rattle.sample_changes.proofs.OnceBatches.{batch_once}
use Rattle.catalog_changes.specs.Laws.{BeginsLegally, EachMayFollow, ZoneActsOnce}
use Rattle.notice_changes.specs.Laws.{ATakingActsOnce}
use Rattle.history_laws.specs.Kept.{DaysAreFew, RowsAreRead}
use Rattle.history_laws.specs.Once.{BatchActsOnce, BatchBringsNothing, ChangesActOnce}
use Rattle.history_laws.specs.Once.{NoneStandsTwice, repeated_judgement}

-- A BATCH

front : {A : Type 0} (P : A → Type 0) (a b : List A) → AllByRecursion P (a ++ b) →
    AllByRecursion P a
front P [] b h = tt
front P (x ∷ xs) b h = (h.0, front P xs b h.1)

back : {A : Type 0} (P : A → Type 0) (a b : List A) → AllByRecursion P (a ++ b) →
    AllByRecursion P b
back P [] b h = h
back P (x ∷ xs) b h = back P xs b h.1

-- what holds of all rows holds of those of an entry
rows_there : (P : Row → Type 0) (before after : List Entry) (e : Entry) →
    AllByRecursion P (rows_in (before ++ e ∷ after)) → AllByRecursion P (rows_of e.command)
rows_there P [] after e h = front P (rows_of e.command) (rows_in after) h
rows_there P (x ∷ before) after e h =
    rows_there P before after e (back P (rows_of x.command) (rows_in (before ++ e ∷ after)) h)

pub batch_acts_once : RowsAreRead → DaysAreFew → BatchActsOnce
batch_acts_once read few origin h before after e rows moment legal split is later =
    batch_once origin h before after e rows moment legal split is later
    (subst (λ (c : Command). AllByRecursion (RowIsRead (catalog_in h)) (rows_of c)) is
    (rows_there (RowIsRead (catalog_in h)) before after e
    (subst (λ (es : List Entry). AllByRecursion (RowIsRead (catalog_in h)) (rows_in es)) split
    (read origin h legal))))
    (few origin h legal)

-- a batch that leaves all as it is puts no row
puts_nothing : (fault : Option Refusal) (puts : Bool) (entries : ℕ) (outcome : Outcome) →
    Same outcome ≡ unless_refused fault (cond puts (accepted entries) (Same outcome)) →
    puts ≡ false
puts_nothing (Some refusal) puts entries outcome e = cc e
puts_nothing None false entries outcome e = refl
puts_nothing None true entries outcome e = by (nat_lt entries MAX_ENTRIES) e
  where
    by : (b : Bool) →
        Same outcome ≡ cond b Accepted (Refused (refusals.Limit limits.Entries)) → true ≡ false
    by true f = cc f
    by false f = cc f

pub batch_brings_nothing : BatchActsOnce → BatchBringsNothing
batch_brings_nothing law origin h before after e rows legal split is =
    let now = present (office origin h) in
    let vs = verdicts (rows_in h) rows in
    puts_nothing (samples_fault (is_upgraded h) origin now (catalog_in h) (rows_in h) rows)
    (list_any is_put vs)
    (length h) (batch_outcome vs None)
    (law origin h before after e rows now legal split is (omega arith))

-- EACH CHANGE

-- a notice that an entry takes is taken
was_taken : (before after : List Entry) (e : Entry) (number : ℕ) → e.command ≡ Take number →
    is_taken (before ++ e ∷ after) number ≡ true
was_taken [] after e number is =
    ap (λ b. b || is_taken after number)
    (ap (is_taking number) is ∙ eq-eqb number number refl)
was_taken (x ∷ before) after e number is =
    or_right (is_taking number x.command) (is_taken (before ++ e ∷ after) number)
    (was_taken before after e number is)

-- what is known of the changes of each kind
pub record ActOnce : Type 0 where
  pub batch : BatchActsOnce
  pub zone : ZoneActsOnce
  pub exclusion : samples.ExcludeActsOnce
  pub lifting : samples.LiftActsOnce
  pub taking : ATakingActsOnce
  pub upgrade : samples.UpgradeActsOnce

as_said : (origin : ℕ) (h : List Entry) (moment : ℕ) (c : Command) (said j : Judgement) →
    Some said ≡ Some j → Judges (office origin h) moment c said →
    Judges (office origin h) moment c j
as_said origin h moment c said j e v =
    let same : said ≡ j = cc e in subst (Judges (office origin h) moment c) same v

pub changes_act_once : ActOnce → ChangesActOnce
changes_act_once laws origin h before after e moment judgement legal split later told =
    by e.command refl told
  where
    by : (c : Command) → e.command ≡ c → repeated_judgement h c ≡ Some judgement →
        Judges (office origin h) moment c judgement
    by (Samples rows) is g =
        as_said origin h moment (Samples rows)
        (Same (batch_outcome (verdicts (rows_in h) rows) None))
        judgement g (laws.batch origin h before after e rows moment legal split is later)
    by (PutZone name bytes) is g =
        as_said origin h moment (PutZone name bytes) (Same (Changed None)) judgement g
        (subst (λ (es : List Entry). Judges (office origin es) moment (PutZone name bytes)
        (Same (Changed None))) (sym split)
        (laws.zone origin before after e name bytes moment
        (subst (IsLegal origin) split legal) is
        (subst (λ (es : List Entry). present (office origin es) ≤ moment) split later)))
    by (Exclude value) is g =
        as_said origin h moment (Exclude value)
        (cond (samples.is_lifted h value.id) (Refused (refusals.Withdrawn value.id))
        (Same (Changed None))) judgement g
        (laws.exclusion origin h before after e value moment legal split is)
    by (Lift id) is g =
        as_said origin h moment (Lift id) (Same (Changed None)) judgement g
        (laws.lifting origin h before after e id moment legal split is)
    by (Take number) is g =
        as_said origin h moment (Take number) (Same (Changed None)) judgement g
        (laws.taking origin h number moment legal
        (ap (λ es. is_taken es number) split ∙ was_taken before after e number is))
    by Upgrade is g =
        as_said origin h moment Upgrade (Same (Changed None)) judgement g
        (laws.upgrade origin h before after e moment split is)
    by (Define text) is g = cc g
    by (Remove kind name) is g = cc g
    by Tick is g = cc g

-- NONE STANDS TWICE

not_same : (outcome : Outcome) → Accepted ≡ Same outcome → ⊥
not_same outcome e = cc e

not_withdrawn : (lifted : Bool) (id : List ℕ) →
    Accepted ≡ cond lifted (Refused (refusals.Withdrawn id)) (Same (Changed None)) → ⊥
not_withdrawn true id e = cc e
not_withdrawn false id e = cc e

-- what comes again isn't accepted
not_accepted : (origin : ℕ) (h : List Entry) (moment : ℕ) (c : Command) →
    ((j : Judgement) → repeated_judgement h c ≡ Some j → Judges (office origin h) moment c j) →
    Judges (office origin h) moment c Accepted → repeated_judgement h c ≡ None
not_accepted origin h moment (Samples rows) once v =
    let outcome = batch_outcome (verdicts (rows_in h) rows) None in
    absurd (not_same outcome (v ∙ sym (once (Same outcome) refl)))
not_accepted origin h moment (PutZone name bytes) once v =
    absurd (not_same (Changed None) (v ∙ sym (once (Same (Changed None)) refl)))
not_accepted origin h moment (Exclude value) once v =
    let lifted = samples.is_lifted h value.id in
    let said = cond lifted (Refused (refusals.Withdrawn value.id)) (Same (Changed None)) in
    absurd (not_withdrawn lifted value.id (v ∙ sym (once said refl)))
not_accepted origin h moment (Lift id) once v =
    absurd (not_same (Changed None) (v ∙ sym (once (Same (Changed None)) refl)))
not_accepted origin h moment (Take number) once v =
    absurd (not_same (Changed None) (v ∙ sym (once (Same (Changed None)) refl)))
not_accepted origin h moment Upgrade once v =
    absurd (not_same (Changed None) (v ∙ sym (once (Same (Changed None)) refl)))
not_accepted origin h moment (Define text) once v = refl
not_accepted origin h moment (Remove kind name) once v = refl
not_accepted origin h moment Tick once v = refl

-- whether a change may act anew doesn't lie in the history
anew : (h h' : List Entry) (c : Command) → repeated_judgement h c ≡ None →
    repeated_judgement h' c ≡ None
anew h h' (Define text) e = refl
anew h h' (Remove kind name) e = refl
anew h h' Tick e = refl
anew h h' (Samples rows) e = cc e
anew h h' (PutZone name bytes) e = cc e
anew h h' (Exclude value) e = cc e
anew h h' (Lift id) e = cc e
anew h h' (Take number) e = cc e
anew h h' Upgrade e = cc e

pub none_stands_twice : BeginsLegally → EachMayFollow → ChangesActOnce → NoneStandsTwice
none_stands_twice begins follow once origin h before between after first second legal split same =
    let until : List Entry = before ++ first ∷ between in
    let whole : h ≡ until ++ second ∷ after =
    split ∙ sym (append_assoc before (first ∷ between) (second ∷ after)) in
    let all : IsLegal origin (until ++ second ∷ after) = subst (IsLegal origin) whole legal in
    let may = follow origin until after second all in
    anew until h first.command
    (not_accepted origin until second.moment first.command
    (λ j told. once origin until before between first second.moment j
    (begins origin until (second ∷ after) all) refl may.later told)
    (subst (λ (c : Command). Judges (office origin until) second.moment c Accepted) same
    may.accepted))
