-- What a taking finds and leaves.
use Rattle.std.proofs.Common.{◌≡◌, ◌≢◌, ◌⊎◌, inl, inr, ℕ, ◌+◌, ◌<◌, ◌≤◌, ◌&&◌, ◌||◌, ◌==◌, nat_eq}
use Rattle.std.proofs.Common.{nat_lt, Bool, true, false, not, cond, refl, ap, sym, ◌∙◌, subst}
use Rattle.std.proofs.Common.{arith, List, [], ◌∷◌, ◌++◌, map, max, length, length-append, None}
use Rattle.std.proofs.lemmas.Bool.Decides.{eqb_tells}
use Rattle.std.proofs.lemmas.List.{append-nil, length-map}
use Rattle.slo_limits.specs.declared.TheConstants as most
use Rattle.notice_box.specs.declared.Notice.{Notice}
use Rattle.notice_box.specs.Box.{after_taking}
use Rattle.sample_book.specs.Rows.{current_rows}
use Rattle.sample_book.specs.History as book
use Rattle.sample_book.specs.History.{Holds}
use Rattle.record_form.specs.declared.Command.TheVariants.{Take}
use Rattle.record_form.specs.declared.Entry.{Entry}
use Rattle.record_form.specs.declared.Outcome.TheVariants.{Changed}
use Rattle.record_form.specs.declared.Refusal.TheVariants as refusals
use Rattle.office_history.specs.declared.Judgement.TheVariants.{Accepted, Same, Refused}
use Rattle.office_history.specs.History.{Office, with_entry, present, rows_in, changes_in}
use Rattle.office_history.specs.History.{arrivals_in, accepted_rows}
use Rattle.office_history.specs.Zones.{zones_in}
use Rattle.office_history.specs.Judges.{Judges}
use Rattle.office_history.specs.Notices.{is_taken, notices_in, notices_from, told_in, waiting}
use Rattle.office_history.specs.Verdicts.{accepted, is_waiting, take_verdict}
use Rattle.office_derived.specs.declared.Derived.{Derived}
use Rattle.office_derived.specs.Derived.{IsSound, Reflects}
use Rattle.office_derived.proofs.More.{rows_more, changes_more, events_more, zones_more}
use Rattle.office_derived.proofs.More.{catalog_more, present_more, taken_more, upgraded_more}
use Rattle.office_derived.proofs.Sound.{sound_still}
use Rattle.office_derived.proofs.Still.{told_still, states_still}
use Rattle.notice_changes.proofs.BoxLemmas.{length_numbered, length_taken, waiting_fewer}
use Rattle.notice_changes.proofs.TickLemmas.{entries_below}

abbrev pub take_at : ℕ → ℕ → Entry
take_at moment number = record { moment = moment; command = Take number }

-- A taking that is accepted is of a notice that was made.
pub take_within : (made : List (Notice × Bool)) (n number : ℕ)
    → take_verdict made n number ≡ Accepted → (0 < number) × (number ≤ length made)
    × (n < most.MAX_ENTRIES)
take_within made n number h =
    by (number == 0) (nat_lt (length made) number) (is_waiting made number) refl refl h
  where
    by : (a b w : Bool) → (number == 0) ≡ a → nat_lt (length made) number ≡ b →
        cond (a || b) (Refused (refusals.UnknownNotice (length made) number))
        (cond w (accepted n) (Same (Changed None))) ≡ Accepted →
        (0 < number) × (number ≤ length made) × (n < most.MAX_ENTRIES)
    by true b w e f h = cc h
    by false true w e f h = cc h
    by false false false e f h = cc h
    by false false true e f h = (grind (arith, e), grind (arith, f), entries_below n h)

-- the limits of a taking that is the next, over what is kept
pub next_within : (d : Derived) (o : Office) (moment number : ℕ) → Reflects d o →
    Judges o moment (Take number) Accepted →
    (0 < number) × (number ≤ length d.notices.made) × (d.entries < most.MAX_ENTRIES)
next_within d o moment number r judged =
    let within = take_within (notices_in o) (length o.history) number (sym judged) in
    let many : length d.notices.made ≡ length (notices_in o) = ap length r.notices in
    (within.0, omega (arith, many, within.1), omega (arith, r.entries, within.2))

-- the notices behind a taking
pub notices_taken : (o : Office) (moment number : ℕ)
    → after_taking (notices_in o) number ≡ notices_in (with_entry o (take_at moment number))
notices_taken o moment number =
    all (notices_from 1 (told_in o))
    ∙ ap (λ ts. map (λ (n : Notice). (
      n,
      not (is_taken (o.history ++ take_at moment number ∷ []) n.number),
    )) (notices_from 1 ts))
    (sym (told_still o (take_at moment number) refl))
  where
    both : (a b : Bool) → (not a && not b) ≡ not (a || b)
    both true b = refl
    both false b = refl

    all : (ns : List Notice)
        → after_taking (map (λ (n : Notice). (n, not (is_taken o.history n.number))) ns) number
        ≡ map (λ (n : Notice). (
          n,
          not (is_taken (o.history ++ take_at moment number ∷ []) n.number),
        )) ns
    all [] = refl
    all (n ∷ ns) = λ i. (
      n,
      (both (is_taken o.history n.number) (n.number == number)
          ∙ ap not (sym (taken_more o.history (take_at moment number) n.number))) i,
    ) ∷ all ns i

-- What is kept after a taking is what the longer history says.
pub reflects_take : (d d' : Derived) (o : Office) (moment number : ℕ) → Reflects d o →
    present o ≤ moment → number ≤ length d.notices.made →
    d'.origin ≡ d.origin → d'.entries ≡ d.entries + 1 → d'.present ≡ moment →
    d'.catalog ≡ d.catalog → d'.zones.kept ≡ d.zones.kept →
    d'.book.rows ≡ d.book.rows → d'.book.exclusions ≡ d.book.exclusions → d'.accepted ≡ d.accepted →
    d'.upgraded ≡ d.upgraded →
    d'.notices.made ≡ after_taking d.notices.made number → d'.states.items ≡ d.states.items →
    Reflects d' (with_entry o (take_at moment number))
reflects_take d d' o moment number r later within origin entries now catalog zones rows exclusions
    accepted upgraded notices kept =
    let e = take_at moment number in
    record {
      origin = origin ∙ r.origin;
      entries = entries ∙ ap (λ n. n + 1) r.entries ∙ sym (length-append o.history (e ∷ []));
      present = now ∙ sym (present_more o e ∙ greater (present o) moment later);
      catalog = catalog ∙ r.catalog ∙ sym (catalog_more o.history e);
      zones = zones ∙ r.zones ∙ sym (zones_more o.history e ∙ append-nil (zones_in o.history));
      rows =
          rows ∙ r.rows
          ∙ ap current_rows (sym (rows_more o.history e ∙ append-nil (rows_in o.history)));
      exclusions = exclusions ∙ r.exclusions ∙ ap book.exclusions_of
          (sym (changes_more o.history e ∙ append-nil (changes_in o.history)));
      held = subst (λ es. Holds es d'.book.rows d'.book.exclusions)
          (sym (events_more o.history e ∙ append-nil (arrivals_in o.history)))
          (subst (λ rs. Holds (arrivals_in o.history) rs d'.book.exclusions) (sym rows)
          (subst (λ xs. Holds (arrivals_in o.history) d.book.rows xs) (sym exclusions) r.held));
      accepted = accepted ∙ r.accepted
          ∙ ap accepted_rows (sym (rows_more o.history e ∙ append-nil (rows_in o.history)));
      upgraded = upgraded ∙ r.upgraded ∙ sym (upgraded_more o.history e);
      notices = notices ∙ ap (λ made. after_taking made number) r.notices
          ∙ notices_taken o moment number;
      states = kept ∙ r.states ∙ sym (states_still o e refl);
      numbers = λ k above. taken_more o.history e k
          ∙ none k (subst (λ ts. length ts < k) (told_still o e refl) above);
    }
  where
    greater : (a b : ℕ) → a ≤ b → max a b ≡ b
    greater a b h = omega (arith, h)

    few : number ≤ length (told_in o)
    few = let many : length d.notices.made ≡ length (told_in o) =
        ap length r.notices ∙ length-map (notices_from 1 (told_in o)) (λ (n : Notice).
        (n, not (is_taken o.history n.number))) ∙ length_numbered 1 (told_in o) in
        omega (arith, within, many)

    none : (k : ℕ) → length (told_in o) < k → (is_taken o.history k || (k == number)) ≡ false
    none k above = (λ i. r.numbers k above i || (k == number)) ∙ other (eqb_tells k number)
      where
        other : ((nat_eq k number ≡ true) × (k ≡ number))
            ⊎ ((nat_eq k number ≡ false) × (k ≢ number)) → (k == number) ≡ false
        other (inl same) = absurd (omega (arith, same.1, above, few))
        other (inr differs) = differs.0

-- What a taking leaves is sound.
pub sound_take : (d d' : Derived) (number : ℕ) → IsSound d →
    d'.origin ≡ d.origin → d'.entries ≡ d.entries + 1 → d'.catalog ≡ d.catalog →
    d'.book.rows ≡ d.book.rows → d'.book.exclusions ≡ d.book.exclusions →
    d'.sums ≡ d.sums → d'.accepted ≡ d.accepted → d'.upgraded ≡ d.upgraded →
    d'.notices.made ≡ after_taking d.notices.made number →
    waiting d.notices.made ≤ waiting d'.notices.made + 1 → d.entries < most.MAX_ENTRIES → IsSound d'
sound_take d d' number s origin entries catalog rows exclusions kept accepted upgraded notices one
    below =
    let many : length d'.notices.made ≡ length d.notices.made = ap length notices
    ∙ length_taken d.notices.made number in
    let wait : waiting d'.notices.made ≡ waiting (after_taking d.notices.made number) =
    ap waiting notices in
    sound_still d d' s origin catalog exclusions rows kept accepted upgraded
    (omega (arith, entries, below))
    (omega (arith, wait, waiting_fewer d.notices.made number, s.few_waiting))
    (omega (arith, many, one, entries, s.made))
