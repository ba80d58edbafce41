-- A line of fields without quotes, byte by byte.
use Rattle.std.proofs.Common.{◌≡◌, ◌∙◌, ◌<◌, ◌≤◌, ◌+◌, ◌-◌, ◌++◌, ◌∷◌, ℕ, Bool, true, false, List}
use Rattle.std.proofs.Common.{[], Some, ap, arith, drop, get_or, length, length-drop}
use Rattle.std.proofs.Common.{length-take, refl, set, subst, sym, take}
use Rattle.std.proofs.lemmas.List.{drop_more, get_or-drop, length-set, take_all, take_more}
use Rattle.std.proofs.lemmas.List.{take_more_set}
use Rattle.csv.specs.Machine.{next_record, step}
use Rattle.csv.specs.Reading.{default_config}
use Rattle.csv.specs.declared.parser.Action.TheVariants as act
use Rattle.csv.specs.declared.parser.State.{State}
use Rattle.csv.specs.declared.parser.State.TheVariants as st
use Rattle.csv_records.specs.Records.{Fields, csv_records}
use Rattle.csv_records.proofs.CutLemmas.{records_behind_feed}
use Rattle.csv_records.proofs.Rest.{rest-some}
use Rattle.plain_fields.specs.Lines.{AreEnds, AreFive, AreSix, IsLine, IsLineStart}
use Rattle.plain_fields.specs.Lines.{StandsBehindFeed, fields_between, is_mark, place_behind}
use Rattle.plain_fields.proofs.PlaceLemmas.{later_line}

-- a record or a field begins in these states, or goes on without quotes
abbrev pub is_unquoted : State → Bool
is_unquoted st.StartRecord = true
is_unquoted st.StartField = true
is_unquoted st.InField = true
is_unquoted _ = false

-- the same, behind the first field
abbrev pub is_inside : State → Bool
is_inside st.StartField = true
is_inside st.InField = true
is_inside _ = false

step_plain : (s : State) (byte : ℕ) → is_unquoted s ≡ true → is_mark byte ≡ false
    → step default_config s byte ≡ (st.InField, act.Copy)
step_plain s byte unquoted plain = grind arith

step_comma : (s : State) → is_unquoted s ≡ true
    → step default_config s 44 ≡ (st.StartField, act.EndField)
step_comma s unquoted = grind arith

step_feed : (s : State) → is_inside s ≡ true
    → step default_config s 10 ≡ (st.StartRecord, act.EndRecord)
step_feed s inside = grind arith

-- a byte that is no mark joins the field, a comma ends it, and a line feed ends the record
joins : (s : State) (fields : Fields) (field : List ℕ) (byte : ℕ) (more : List ℕ)
    → is_unquoted s ≡ true → is_mark byte ≡ false
    → next_record default_config s fields field (byte ∷ more)
    ≡ next_record default_config st.InField fields (field ++ byte ∷ []) more
unfolding next_record
joins s fields field byte more unquoted plain = rw (step_plain s byte unquoted plain) refl

ends_field : (s : State) (fields : Fields) (field more : List ℕ) → is_unquoted s ≡ true
    → next_record default_config s fields field (44 ∷ more)
    ≡ next_record default_config st.StartField (fields ++ field ∷ []) [] more
unfolding next_record
ends_field s fields field more unquoted = rw (step_comma s unquoted) refl

ends_record : (s : State) (fields : Fields) (field more : List ℕ) → is_inside s ≡ true
    → next_record default_config s fields field (10 ∷ more)
    ≡ Some (fields ++ field ∷ [], st.StartRecord, more)
unfolding next_record
ends_record s fields field more inside = rw (step_feed s inside) refl

-- one more end
ends_more : (from : ℕ) (ends : List ℕ) (at : ℕ) → AreEnds from ends → place_behind from ends ≤ at
    → AreEnds from (ends ++ at ∷ [])
ends_more from [] at are within = (within, tt)
ends_more from (end ∷ ends) at are within = (are.0, ends_more (end + 1) ends at are.1 within)

behind_more : (from : ℕ) (ends : List ℕ) (at : ℕ) → place_behind from (ends ++ at ∷ []) ≡ at + 1
behind_more from [] at = refl
behind_more from (end ∷ ends) at = behind_more (end + 1) ends at

fields_more : (text : List ℕ) (from : ℕ) (ends : List ℕ) (at : ℕ)
    → fields_between text from (ends ++ at ∷ [])
    ≡ fields_between text from ends
    ++ take (at - place_behind from ends) (drop (place_behind from ends) text) ∷ []
fields_more text from [] at = refl
fields_more text from (end ∷ ends) at =
    ap (λ (fields : Fields). take (end - from) (drop from text) ∷ fields)
    (fields_more text (end + 1) ends at)

-- a field with one more byte
field_more : (text : List ℕ) (start at : ℕ) → start ≤ at → at < length text
    → take (at + 1 - start) (drop start text)
    ≡ take (at - start) (drop start text) ++ get_or text at 0 ∷ []
field_more text start at within inside =
    let rest = drop start text in
    let on : start + (at - start) ≡ at = omega (arith, within) in
    let next : at + 1 - start ≡ at - start + 1 = omega (arith, within) in
    let short : at - start < length rest = omega (arith, within, inside, length-drop start text) in
    ap (λ (n : ℕ). take n rest) next ∙ take_more rest (at - start) 0 short
    ∙ ap (λ (byte : ℕ). take (at - start) rest ++ byte ∷ [])
    (get_or-drop start text (at - start) 0 ∙ ap (λ (n : ℕ). get_or text n 0) on)

-- the fields of a line that end at these places were read, and a part of the next, up to a place
pub record HasRead (text : List ℕ) (from : ℕ) (ends : List ℕ) (at : ℕ) : Type 0 where
  pub ascending : AreEnds from ends
  pub within : place_behind from ends ≤ at
  pub state : State
  pub unquoted : is_unquoted state ≡ true
  pub inside : 0 < length ends → is_inside state ≡ true
  pub left : next_record default_config st.StartRecord [] [] (drop from text)
      ≡ next_record default_config state (fields_between text from ends)
      (take (at - place_behind from ends) (drop (place_behind from ends) text)) (drop at text)

-- before the first byte
pub nothing_read : (text : List ℕ) (from : ℕ) (ends : List ℕ) → ends ≡ []
    → HasRead text from ends from
nothing_read text from ends none =
    subst (λ (es : List ℕ). HasRead text from es from) (sym none) (record {
      ascending = tt;
      within = omega arith;
      state = st.StartRecord;
      unquoted = refl;
      inside = λ some. absurd (omega (arith, some));
      left = (let zero : from - from ≡ 0 = omega arith in
          ap (λ (n : ℕ). next_record default_config st.StartRecord [] (take n (drop from text))
          (drop from text)) (sym zero));
    })

-- the bytes from a place on
at_byte : (text : List ℕ) (at byte : ℕ) → at < length text → get_or text at 0 ≡ byte
    → drop at text ≡ byte ∷ drop (at + 1) text
at_byte text at byte inside is =
    drop_more text at 0 inside ∙ ap (λ (b : ℕ). b ∷ drop (at + 1) text) is

-- one more byte that is no mark
pub byte_read : (text : List ℕ) (from : ℕ) (ends : List ℕ) (at : ℕ) → HasRead text from ends at
    → at < length text → is_mark (get_or text at 0) ≡ false → HasRead text from ends (at + 1)
byte_read text from ends at read inside plain =
    let start = place_behind from ends in
    let fields = fields_between text from ends in
    let field = take (at - start) (drop start text) in
    record {
      ascending = read.ascending;
      within = omega (arith, read.within);
      state = st.InField;
      unquoted = refl;
      inside = λ some. refl;
      left =
          read.left
          ∙ ap (next_record default_config read.state fields field)
          (at_byte text at (get_or text at 0) inside refl)
          ∙ joins read.state fields field (get_or text at 0) (drop (at + 1) text) read.unquoted
          plain
          ∙ ap (λ (f : List ℕ). next_record default_config st.InField fields f (drop (at + 1) text))
          (sym (field_more text start at read.within inside));
    }

-- a comma
comma_read : (text : List ℕ) (from : ℕ) (ends : List ℕ) (at : ℕ) → HasRead text from ends at
    → at < length text → get_or text at 0 ≡ 44 → HasRead text from (ends ++ at ∷ []) (at + 1)
comma_read text from ends at read inside comma =
    let start = place_behind from ends in
    let fields = fields_between text from ends in
    let field = take (at - start) (drop start text) in
    let more = drop (at + 1) text in
    let next = place_behind from (ends ++ at ∷ []) in
    let none : at + 1 - next ≡ 0 = omega (arith, behind_more from ends at) in
    record {
      ascending = ends_more from ends at read.ascending read.within;
      within = omega (arith, behind_more from ends at);
      state = st.StartField;
      unquoted = refl;
      inside = λ some. refl;
      left =
          read.left
          ∙ ap (next_record default_config read.state fields field)
          (at_byte text at 44 inside comma)
          ∙ ends_field read.state fields field more read.unquoted
          ∙ ap (λ (fs : Fields). next_record default_config st.StartField fs [] more)
          (sym (fields_more text from ends at))
          ∙ ap (λ (n : ℕ). next_record default_config st.StartField
          (fields_between text from (ends ++ at ∷ [])) (take n (drop next text)) more) (sym none);
    }

-- the line feed behind the last field
feed_read : (text : List ℕ) (from : ℕ) (ends : List ℕ) (at : ℕ) → HasRead text from ends at
    → 0 < length ends → at < length text → get_or text at 0 ≡ 10
    → IsLine text from (at + 1) (ends ++ at ∷ [])
feed_read text from ends at read some inside feed =
    let start = place_behind from ends in
    let fields = fields_between text from ends in
    let field = take (at - start) (drop start text) in
    let more = drop (at + 1) text in
    let all = fields_between text from (ends ++ at ∷ []) in
    let here : at + 1 - 1 ≡ at = omega arith in
    let found : next_record default_config st.StartRecord [] [] (drop from text)
    ≡ Some (all, st.StartRecord, more) =
    read.left
    ∙ ap (next_record default_config read.state fields field) (at_byte text at 10 inside feed)
    ∙ ends_record read.state fields field more (read.inside some)
    ∙ ap (λ (fs : Fields). Some (fs, st.StartRecord, more)) (sym (fields_more text from ends at)) in
    record {
      ascending = ends_more from ends at read.ascending read.within;
      last = behind_more from ends at;
      behind = record {
        some = omega arith;
        within = omega (arith, inside);
        feed = ap (λ (n : ℕ). get_or text n 0) here ∙ feed;
      };
      records =
          records_behind_feed (drop from text)
          ∙ (rest-some default_config st.StartRecord (drop from text) (all, st.StartRecord, more)
          refl found).1
          ∙ ap (λ (rows : List Fields). all ∷ rows) (sym (records_behind_feed more));
    }

-- one more end where ends are put into a list of places
pub end_put : (text : List ℕ) (from : ℕ) (ends : List ℕ) (count at : ℕ)
    → HasRead text from (take count ends) at → count < length ends → at < length text
    → get_or text at 0 ≡ 44 → HasRead text from (take (count + 1) (set ends count at)) (at + 1)
end_put text from ends count at read few inside comma =
    subst (λ (es : List ℕ). HasRead text from es (at + 1)) (sym (take_more_set ends count at few))
    (comma_read text from (take count ends) at read inside comma)

all_put : (ends : List ℕ) (count at : ℕ) → count + 1 ≡ length ends
    → take count ends ++ at ∷ [] ≡ set ends count at
all_put ends count at all =
    sym (take_more_set ends count at (omega (arith, all)))
    ∙ take_all (count + 1) (set ends count at) (omega (arith, all, length-set ends count at))

-- the last one
pub last_put : (text : List ℕ) (from : ℕ) (ends : List ℕ) (count at : ℕ)
    → HasRead text from (take count ends) at → 2 ≤ length ends → count + 1 ≡ length ends
    → at < length text → get_or text at 0 ≡ 10 → IsLine text from (at + 1) (set ends count at)
last_put text from ends count at read many all inside feed =
    subst (IsLine text from (at + 1)) (all_put ends count at all)
    (feed_read text from (take count ends) at read
    (omega (arith, many, all, length-take count ends)) inside feed)

-- the ends of five fields, and of six
pub five_from : (text : List ℕ) (from next : ℕ) (ends : List ℕ) → length ends ≡ 5
    → IsLine text from next ends → AreFive text from (
      get_or ends 0 0,
      get_or ends 1 0,
      get_or ends 2 0,
      get_or ends 3 0,
      get_or ends 4 0,
    )
five_from text from next (a ∷ b ∷ c ∷ d ∷ e ∷ []) size line = record {
  first = line.ascending.0;
  second = line.ascending.1.0;
  third = line.ascending.1.1.0;
  fourth = line.ascending.1.1.1.0;
  fifth = line.ascending.1.1.1.1.0;
  inside = omega (arith, line.last, line.behind.within);
  behind = subst (StandsBehindFeed text) (sym line.last) line.behind;
  records = subst (λ (n : ℕ). csv_records (10 ∷ drop from text)
      ≡ fields_between text from (a ∷ b ∷ c ∷ d ∷ e ∷ []) ∷ csv_records (10 ∷ drop n text))
      (sym line.last) line.records;
}
five_from text from next _ size line = absurd (omega arith)

pub six_from : (text : List ℕ) (from next : ℕ) (ends : List ℕ) → length ends ≡ 6
    → IsLine text from next ends → AreSix text from (
      get_or ends 0 0,
      get_or ends 1 0,
      get_or ends 2 0,
      get_or ends 3 0,
      get_or ends 4 0,
      get_or ends 5 0,
    )
six_from text from next (a ∷ b ∷ c ∷ d ∷ e ∷ f ∷ []) size line = record {
  first = line.ascending.0;
  second = line.ascending.1.0;
  third = line.ascending.1.1.0;
  fourth = line.ascending.1.1.1.0;
  fifth = line.ascending.1.1.1.1.0;
  sixth = line.ascending.1.1.1.1.1.0;
  inside = omega (arith, line.last, line.behind.within);
  start = subst (IsLineStart text) (sym line.last) (later_line text next line.behind);
  records = subst (λ (n : ℕ). csv_records (10 ∷ drop from text)
      ≡ fields_between text from (a ∷ b ∷ c ∷ d ∷ e ∷ f ∷ []) ∷ csv_records (10 ∷ drop n text))
      (sym line.last) line.records;
}
six_from text from next _ size line = absurd (omega arith)
