-- What stays sound where rows, exclusions, objectives and their sums stay.
use Rattle.std.proofs.Common.{◌≡◌, ◌∙◌, ℕ, ◌+◌, ◌≤◌, Bool, true, false, List, ap, arith, length}
use Rattle.std.proofs.Common.{refl, subst, sym}
use Rattle.std.specs.List.{All}
use Rattle.slo_limits.specs.declared.TheConstants as most
use Rattle.sample_book.specs.declared.Exclusion.{Exclusion}
use Rattle.sample_book.specs.declared.Row.{Row}
use Rattle.object_terms.specs.declared.Object.{Object}
use Rattle.kept_sums.specs.Objectives.{KeepsSums, KeptObjectives}
use Rattle.office_history.specs.Notices.{waiting}
use Rattle.office_history.specs.Versions.{most_cells, most_rows}
use Rattle.office_derived.specs.declared.derived.Derived.{Derived}
use Rattle.office_derived.specs.Derived.{IsPlaced, IsSound, RowIsRead, Stays}

-- what the sums of the objectives rest on
record Sampled : Type 0 where
  members : List Object
  made : List (Exclusion × Bool)
  rows : List Row
  sums : KeptObjectives

-- the sums stay those of the objectives where catalog, exclusions and rows stay
pub sums_still : (d d' : Derived) → d'.catalog ≡ d.catalog →
    d'.book.exclusions ≡ d.book.exclusions → d'.book.rows ≡ d.book.rows →
    d'.sums ≡ d.sums →
    KeepsSums d.catalog d.book.exclusions d.book.rows d.sums →
    KeepsSums d'.catalog d'.book.exclusions d'.book.rows d'.sums
sums_still d d' catalog made rows kept sums =
    subst (λ (s : Sampled). KeepsSums s.members s.made s.rows s.sums) same sums
  where
    before : Sampled
    before = record {
      members = d.catalog;
      made = d.book.exclusions;
      rows = d.book.rows;
      sums = d.sums;
    }

    after : Sampled
    after = record {
      members = d'.catalog;
      made = d'.book.exclusions;
      rows = d'.book.rows;
      sums = d'.sums;
    }

    same : before ≡ after
    same = λ i. record {
      members = sym catalog i;
      made = sym made i;
      rows = sym rows i;
      sums = sym kept i;
    }

-- as many as before are within the limits of before
pub within_cells : (u u' : Bool) (n n' : ℕ) → u ≡ u' → n' ≡ n → n ≤ most_cells u
    → n' ≤ most_cells u'
within_cells u u' n n' same is h =
    subst (λ b. n' ≤ most_cells b) same (subst (λ k. k ≤ most_cells u) (sym is) h)

pub within_rows : (u u' : Bool) (n n' : ℕ) → u ≡ u' → n' ≡ n → n ≤ most_rows u
    → n' ≤ most_rows u'
within_rows u u' n n' same is h =
    subst (λ b. n' ≤ most_rows b) same (subst (λ k. k ≤ most_rows u) (sym is) h)

-- an upgrade takes no room away
pub more_cells : (u : Bool) → most_cells u ≤ most_cells true
more_cells true = omega arith
more_cells false = omega arith

pub more_rows : (u : Bool) → most_rows u ≤ most_rows true
more_rows true = omega arith
more_rows false = omega arith

-- what is kept stays sound where its rows, objectives and sums stay, and its entries and notices
-- keep their limits: so after a tick, a taking, or a zone that is put
pub sound_still : (d d' : Derived) → IsSound d → d'.origin ≡ d.origin →
    d'.catalog ≡ d.catalog → d'.book.exclusions ≡ d.book.exclusions →
    d'.book.rows ≡ d.book.rows → d'.sums ≡ d.sums → d'.accepted ≡ d.accepted →
    d'.upgraded ≡ d.upgraded →
    d'.entries ≤ most.MAX_ENTRIES → waiting d'.notices.made ≤ most.MAX_NOTICES →
    length d'.notices.made ≤ waiting d'.notices.made + d'.entries → IsSound d'
sound_still d d' s origin catalog made rows kept accepted upgraded entries few all = record {
  origin = omega (arith, origin, s.origin);
  entries = entries;
  cells = within_cells d.upgraded d'.upgraded (length d.book.rows) (length d'.book.rows)
      (sym upgraded) (ap length rows) s.cells;
  summed = omega (arith, ap length rows, s.summed);
  accepted = within_rows d.upgraded d'.upgraded d.accepted d'.accepted (sym upgraded) accepted
      s.accepted;
  few_waiting = few;
  made = all;
  read = subst (λ (rs : List Row). All (RowIsRead d'.catalog) rs) (sym rows)
      (subst (λ (os : List Object). All (RowIsRead os) d.book.rows) (sym catalog) s.read);
  placed = subst (λ (rs : List Row). All (IsPlaced d'.origin) rs) (sym rows)
      (subst (λ n. All (IsPlaced n) d.book.rows) (sym origin) s.placed);
  sums = sums_still d d' catalog made rows kept s.sums;
}

-- more room leaves what is kept sound
pub sound_stays : (a b : Derived) → Stays a b → IsSound a → IsSound b
sound_stays a b s k = record {
  origin = omega (arith, s.origin, k.origin);
  entries = omega (arith, s.entries, k.entries);
  cells = within_cells a.upgraded b.upgraded (length a.book.rows) (length b.book.rows)
      (sym s.upgraded) (ap length s.rows) k.cells;
  summed = omega (arith, ap length s.rows, k.summed);
  accepted = within_rows a.upgraded b.upgraded a.accepted b.accepted (sym s.upgraded) s.accepted
      k.accepted;
  few_waiting = omega (arith, ap waiting s.notices, k.few_waiting);
  made = omega (arith, ap length s.notices, ap waiting s.notices, s.entries, k.made);
  read = subst (λ (rs : List Row). All (RowIsRead b.catalog) rs) (sym s.rows)
      (subst (λ (os : List Object). All (RowIsRead os) a.book.rows) (sym s.catalog) k.read);
  placed = subst (λ (rs : List Row). All (IsPlaced b.origin) rs) (sym s.rows)
      (subst (λ n. All (IsPlaced n) a.book.rows) (sym s.origin) k.placed);
  sums = s.sums k.sums;
}

-- all but the sums stays
pub with_sums : (d d' : Derived) (sums : KeptObjectives) → d' ≡ record d { sums = sums } →
    (KeepsSums d.catalog d.book.exclusions d.book.rows d.sums →
    KeepsSums d.catalog d.book.exclusions d.book.rows sums) → Stays d d'
with_sums d d' sums is keeps = subst (Stays d) (sym is) (record {
  origin = refl;
  entries = refl;
  present = refl;
  catalog = refl;
  zones = refl;
  rows = refl;
  exclusions = refl;
  accepted = refl;
  upgraded = refl;
  notices = refl;
  states = refl;
  sums = keeps;
})

-- what stays twice stays
pub stays_then : (a b c : Derived) → Stays a b → Stays b c → Stays a c
stays_then a b c p q = record {
  origin = q.origin ∙ p.origin;
  entries = q.entries ∙ p.entries;
  present = q.present ∙ p.present;
  catalog = q.catalog ∙ p.catalog;
  zones = q.zones ∙ p.zones;
  rows = q.rows ∙ p.rows;
  exclusions = q.exclusions ∙ p.exclusions;
  accepted = q.accepted ∙ p.accepted;
  upgraded = q.upgraded ∙ p.upgraded;
  notices = q.notices ∙ p.notices;
  states = q.states ∙ p.states;
  sums = λ keeps. q.sums (p.sums keeps);
}

pub stays_so : (a : Derived) → Stays a a
stays_so a = record {
  origin = refl;
  entries = refl;
  present = refl;
  catalog = refl;
  zones = refl;
  rows = refl;
  exclusions = refl;
  accepted = refl;
  upgraded = refl;
  notices = refl;
  states = refl;
  sums = λ keeps. keeps;
}
