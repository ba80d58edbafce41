-- Offices after commands that came one after another.
use Rattle.std.proofs.Common.{◌≡◌, ℕ, ◌+◌, ◌<◌, ◌≤◌, max, Bool, true, false, List, [], ◌∷◌, ◌++◌}
use Rattle.std.proofs.Common.{refl, sym, ap, ◌∙◌, length, subst, arith, fold}
use Rattle.std.proofs.Common.{◌||◌, length-append}
use Rattle.std.proofs.lemmas.Bool.Decides.{nat_tests}
use Rattle.sample_book.specs.declared.Row.{Row}
use Rattle.sample_book.specs.Exclusions.{Change}
use Rattle.object_terms.specs.declared.Object.{Object}
use Rattle.record_form.specs.declared.Command.{Command}
use Rattle.record_form.specs.declared.Entry.{Entry}
use Rattle.office_history.specs.History.{Office, moment_of, present, end_of, rows_in}
use Rattle.office_history.specs.History.{rows_of, changes_in, changes_of}
use Rattle.office_history.specs.declared.Judgement.TheVariants.{Accepted}
use Rattle.office_history.specs.Judges.{Judges}
use Rattle.office_history.specs.Legal.{MayFollow}
use Rattle.office_history.specs.Catalog.{catalog_in, definitions_of, members_after}
use Rattle.office_history.specs.Versions.{is_upgrade, is_upgraded}
use Rattle.office_history.specs.Zones.{zones_in, zones_of}
use Rattle.office_derived.proofs.More.{catalog_more, rows_more, zones_more, changes_more}
use Rattle.office_derived.proofs.More.{present_more, upgraded_more}
use Rattle.export_laws.specs.Replay.{entry_at, after, after_all, AreAccepted}

-- an office is upgraded behind a command where it was, or where the command is the upgrade
abbrev pub with_upgrade : Bool → Bool → Bool
with_upgrade upgraded true = true
with_upgrade upgraded false = upgraded

pub version_more : (h : List Entry) (e : Entry)
    → is_upgraded (h ++ e ∷ []) ≡ with_upgrade (is_upgraded h) (is_upgrade e.command)
version_more h e = upgraded_more h e ∙ either (is_upgrade e.command) (is_upgraded h)
  where
    either : (a b : Bool) → (a || b) ≡ with_upgrade b a
    either true b = refl
    either false b = refl

-- what a history says, as far as moves change it
pub record Stands (origin : ℕ) (upgraded : Bool) (members : List Object)
    (zones : List (List ℕ × List ℕ))
    (rows : List Row) (changes : List Change) (entries : ℕ) (o : Office) : Type 0 where
  pub origin_is : o.origin ≡ origin
  pub version_is : is_upgraded o.history ≡ upgraded
  pub catalog_is : catalog_in o.history ≡ members
  pub zones_are : zones_in o.history ≡ zones
  pub rows_are : rows_in o.history ≡ rows
  pub changes_are : changes_in o.history ≡ changes
  pub counted : length o.history ≡ entries
  pub in_range : present o < end_of origin

max_less : (a b n : ℕ) → a < n → b < n → max a b < n
max_less a b n h k = grind (arith, nat_tests, h, k)

pub moment_in_range : (o : Office) (origin reading : ℕ) → o.origin ≡ origin
    → present o < end_of origin → reading < end_of origin → moment_of o reading < end_of o.origin
moment_in_range o origin reading same h k =
    subst (λ n. moment_of o reading < end_of n) (sym same)
    (max_less (present o) reading (end_of origin) h k)

-- a command that is accepted may follow
pub may_follow : (o : Office) (origin reading : ℕ) (c : Command) → o.origin ≡ origin
    → present o < end_of origin → reading < end_of origin
    → Judges o (moment_of o reading) c Accepted → MayFollow o (entry_at (moment_of o reading) c)
may_follow o origin reading c same h k accepted = record {
  in_range = moment_in_range o origin reading same h k;
  later = later (present o) reading;
  accepted = accepted;
}
  where
    later : (a b : ℕ) → a ≤ max a b
    later a b = grind (arith, nat_tests)

-- what a history says after one command more
pub stands_after : (origin : ℕ) (upgraded : Bool) (members : List Object)
    (zones : List (List ℕ × List ℕ))
    (rows : List Row) (changes : List Change) (entries : ℕ) (o : Office) (reading : ℕ)
    (c : Command) → Stands origin upgraded members zones rows changes entries o
    → reading < end_of origin
    → Stands origin (with_upgrade upgraded (is_upgrade c))
    (fold members_after members (definitions_of c)) (zones ++ zones_of c)
    (rows ++ rows_of c) (changes ++ changes_of c) (entries + 1) (after o reading c)
stands_after origin upgraded members zones rows changes entries o reading c s k =
    let e : Entry = entry_at (moment_of o reading) c in
    record {
      origin_is = s.origin_is;
      version_is = version_more o.history e
          ∙ ap (λ b. with_upgrade b (is_upgrade c)) s.version_is;
      catalog_is = catalog_more o.history e
          ∙ ap (λ ms. fold members_after ms (definitions_of c)) s.catalog_is;
      zones_are = zones_more o.history e ∙ ap (λ zs. zs ++ zones_of c) s.zones_are;
      rows_are = rows_more o.history e ∙ ap (λ rs. rs ++ rows_of c) s.rows_are;
      changes_are = changes_more o.history e ∙ ap (λ cs. cs ++ changes_of c) s.changes_are;
      counted = length-append o.history (e ∷ []) ∙ ap (λ n. n + 1) s.counted;
      in_range = subst (λ n. n < end_of origin) (sym (present_more o e))
          (max_less (present o) (max (present o) reading) (end_of origin) s.in_range
          (max_less (present o) reading (end_of origin) s.in_range k));
    }

-- commands behind others
pub joined_accepted : (o : Office) (cs ds : List Command) (rs ss : List ℕ) → AreAccepted o cs rs
    → AreAccepted (after_all o cs rs) ds ss → AreAccepted o (cs ++ ds) (rs ++ ss)
joined_accepted o [] ds [] ss h k = k
joined_accepted o [] ds (r ∷ rs) ss h k = absurd h
joined_accepted o (c ∷ cs) ds [] ss h k = absurd h
joined_accepted o (c ∷ cs) ds (r ∷ rs) ss h k =
    (h.0, joined_accepted (after o r c) cs ds rs ss h.1 k)

pub joined_after : (o : Office) (cs ds : List Command) (rs ss : List ℕ) → AreAccepted o cs rs
    → after_all o (cs ++ ds) (rs ++ ss) ≡ after_all (after_all o cs rs) ds ss
joined_after o [] ds [] ss h = refl
joined_after o [] ds (r ∷ rs) ss h = absurd h
joined_after o (c ∷ cs) ds [] ss h = absurd h
joined_after o (c ∷ cs) ds (r ∷ rs) ss h = joined_after (after o r c) cs ds rs ss h.1
