-- Whether a file's rule agrees with its table can be told from their texts.
use Rattle.std.proofs.Common.{◌≡◌, ◌≢◌, ℕ, ◌-◌, ◌<◌, ℤ, ◌&&◌, Bool, true, false, true≢false, cond}
use Rattle.std.proofs.Common.{nat_eq, List, length, map, get_or, Option, Some, None, option_map, Ok}
use Rattle.std.proofs.Common.{Err, inl, inr, refl, sym, subst, ◌∙◌, arith}
use Rattle.std.proofs.lemmas.Bool.{false_from_ne_true}
use Rattle.std.proofs.lemmas.Bool.Decides.{nat_tests}
use Rattle.std.proofs.lemmas.Int.{ints}
use Rattle.std.proofs.lemmas.Slice.Eq.{bytes_eq-Decides}
use Rattle.std.specs.Prelude.{bytes_eq, IfSome, Result, MatchResult, is_ok}
use Rattle.std.specs.Str.{IsUtf8, is_utf8}
use Rattle.std.proofs.lemmas.Str.{IsUtf8-from_is_utf8, is_utf8-from_IsUtf8}
use Rattle.jiff_core.specs.declared.Offset.{Offset}
use Rattle.jiff_core.specs.declared.error.Error.{Error}
use Rattle.jiff_core.specs.declared.error.Error.TheVariants.{OutOfMemory}
use Rattle.jiff_core.specs.Timestamp.{nanos_of_seconds}
use Rattle.jiff_tz.specs.Abbreviation.{abbreviation_text}
use Rattle.jiff_tz.specs.Flag.{is_dst}
use Rattle.jiff_tz.specs.declared.abbreviation.Abbreviation.{Abbreviation}
use Rattle.jiff_tz.specs.declared.info.Dst.{Dst as Flag}
use Rattle.jiff_tz.specs.declared.info.Dst.TheVariants.{Yes, No}
use Rattle.jiff_tz.specs.declared.info.OffsetInfo.{OffsetInfo}
use Rattle.jiff_tz.specs.declared.posix.Dst.{Dst}
use Rattle.jiff_tz.specs.declared.posix.TimeZone.{TimeZone}
use Rattle.jiff_tz.specs.declared.tzif.Tzif.{Tzif}
use Rattle.jiff_tz.specs.PosixRule as Posix
use Rattle.jiff_tz.specs.PosixRule.{int_same, rule_nanos}
use Rattle.jiff_tz.specs.PosixText.{dst_view, tz_view}
use Rattle.jiff_tz.specs.Tzif.{tzif_view, RuleAgrees, IsParseFailure}
use Rattle.jiff_tz.specs.TzifAgree.{FooterAgrees, RowAgrees}
use Rattle.jiff_tz.specs.TzifReader.{read_tzif}
use Rattle.jiff_tz.specs.TzifText.{TypeText, TransitionText, transition_text, no_row}
use Rattle.zone_calendar.specs.Zone.{Table}
use Rattle.zone_calendar.specs.ZoneBytes.{utc_window, rule_type, same_flag, same_type, rule_agrees}
use Rattle.zone_calendar.specs.ZoneBytes.{table_of}

-- what holds at an instant, as a text
abbrev pub info_type : OffsetInfo → TypeText
info_type info = record {
  seconds = info.offset.seconds;
  dst = info.dst;
  name = abbreviation_text info.abbreviation;
}

same_window : (std : Offset) (dst : Dst) (year : ℤ)
    → Posix.utc_window dst year std ≡ utc_window std.seconds (dst_view dst) year
unfolding Posix.utc_window rule_nanos
same_window std dst year = refl

info_type-cond : (b : Bool) (rule : TimeZone) (dst : Dst)
    → info_type (Posix.match_some (cond b (Some dst) None) (Posix.std_info rule) Posix.dst_info)
    ≡ cond b (info_type (Posix.dst_info dst)) (info_type (Posix.std_info rule))
info_type-cond true rule dst = refl
info_type-cond false rule dst = refl

by_parts : (name : Abbreviation) (std : Offset) (dst : Option Dst) (instant : ℤ)
    → info_type (Posix.info_at (record { std_abbrev = name; std_offset = std; dst = dst }) instant)
    ≡ rule_type (tz_view (record { std_abbrev = name; std_offset = std; dst = dst })) instant
by_parts name std None instant = refl
by_parts name std (Some dst) instant =
    info_type-cond _ (record { std_abbrev = name; std_offset = std; dst = Some dst }) dst
    ∙ rw (same_window std dst) refl

-- what a rule says of an instant is what its text says
info_at-type : (rule : TimeZone) (instant : ℤ)
    → info_type (Posix.info_at rule instant) ≡ rule_type (tz_view rule) instant
info_at-type rule instant = by_parts rule.std_abbrev rule.std_offset rule.dst instant

flag_is : (a b : Flag) → same_flag (is_dst a) (is_dst b) ≡ true → a ≡ b
flag_is Yes Yes e = refl
flag_is Yes No e = absurd (true≢false (sym e))
flag_is No Yes e = absurd (true≢false (sym e))
flag_is No No e = refl

flag_same : (a : Flag) → same_flag (is_dst a) (is_dst a) ≡ true
flag_same Yes = refl
flag_same No = refl

int_is : (a b : ℤ) → int_same a b ≡ true → a ≡ b
int_is a b e = grind (arith, ints)

int_itself : (a : ℤ) → int_same a a ≡ true
int_itself a = grind (arith, ints)

all_three : (p q r : Bool) → (p && (q && r)) ≡ true → (p ≡ true) × (q ≡ true) × (r ≡ true)
all_three true true r e = (refl, refl, e)
all_three true false r e = absurd (true≢false (sym e))
all_three false q r e = absurd (true≢false (sym e))

-- two types are the same where their parts are
record SameParts (a b : TypeText) : Type 0 where
  seconds : a.seconds ≡ b.seconds
  dst : a.dst ≡ b.dst
  name : a.name ≡ b.name

parts_of_same : (a b : TypeText) → same_type a b ≡ true → SameParts a b
parts_of_same a b e =
    let tests = all_three (int_same a.seconds b.seconds) (same_flag (is_dst a.dst) (is_dst b.dst))
    (bytes_eq a.name b.name) e in
    record {
      seconds = int_is a.seconds b.seconds tests.0;
      dst = flag_is a.dst b.dst tests.1;
      name = (bytes_eq-Decides a.name b.name).0 tests.2;
    }

same_by_parts : (a b : TypeText) → SameParts a b → same_type a b ≡ true
same_by_parts a b same =
    rw (
      same.seconds,
      same.dst,
      same.name,
      int_itself b.seconds,
      flag_same b.dst,
    ) ((bytes_eq-Decides b.name b.name).1 refl)

above_zero : (n : ℕ) → nat_eq n 0 ≡ false → 0 < n
above_zero n test = grind (arith, nat_tests)

not_zero : (n : ℕ) → 0 < n → nat_eq n 0 ≡ false
not_zero n above = grind (arith, nat_tests)

passes_by : (no_row : Bool) (rule : TimeZone) (row : TransitionText)
    → (no_row ≡ false → RowAgrees rule row) → cond no_row true
    (same_type (rule_type (tz_view rule) (nanos_of_seconds row.second)) row.after) ≡ true
passes_by true rule row agrees = refl
passes_by false rule row agrees =
    rw (← info_at-type rule (nanos_of_seconds row.second)) (same_by_parts _ _ (record {
      seconds = (agrees refl).0;
      dst = (agrees refl).1;
      name = (agrees refl).2;
    }))

-- a rule that agrees with the last change passes the test, and one that passes it agrees
passes : (rows : List TransitionText) (rule : TimeZone) → FooterAgrees rows rule
    → rule_agrees rows (Some (tz_view rule)) ≡ true
passes rows rule agrees = passes_by (nat_eq (length rows) 0) rule
    (get_or rows (length rows - 1) no_row) (λ some. agrees (above_zero (length rows) some))

tells_by : (no_row : Bool) (rule : TimeZone) (row : TransitionText) → no_row ≡ false → cond no_row
    true (same_type (rule_type (tz_view rule) (nanos_of_seconds row.second)) row.after) ≡ true
    → RowAgrees rule row
tells_by true rule row some test = absurd (true≢false some)
tells_by false rule row some test =
    let parts = parts_of_same (info_type (Posix.info_at rule (nanos_of_seconds row.second)))
    row.after (subst (λ (t : TypeText). same_type t row.after ≡ true)
    (sym (info_at-type rule (nanos_of_seconds row.second))) test) in
    (parts.seconds, parts.dst, parts.name)

tells : (rows : List TransitionText) (rule : TimeZone)
    → rule_agrees rows (Some (tz_view rule)) ≡ true → FooterAgrees rows rule
tells rows rule test = λ some. tells_by (nat_eq (length rows) 0) rule
    (get_or rows (length rows - 1) no_row) (not_zero (length rows) some) test

agreed : (rows : List TransitionText) (rule : Option TimeZone) → IfSome rule (FooterAgrees rows)
    → rule_agrees rows (option_map tz_view rule) ≡ true
agreed rows None agrees = refl
agreed rows (Some rule) agrees = passes rows rule agrees

-- a table that jiff gives is that of its text
pub table_of-agrees : (z : Tzif) → RuleAgrees z
    → table_of (Ok (tzif_view z)) ≡ Some (Table (tzif_view z))
table_of-agrees z agrees =
    rw (agreed (map transition_text z.transitions.items) z.posix_tz agrees) refl

-- bytes that jiff refuses for another reason than memory have no table
pub table_of-refused : (error : Error) (bytes : List ℕ) → IsParseFailure error bytes
    → error ≢ OutOfMemory → table_of (read_tzif bytes) ≡ None
table_of-refused error bytes (inl (inl memory)) other = absurd (other memory)
table_of-refused error bytes (inl (inr fault)) other = rw fault.1 refl
table_of-refused error bytes (inr bad) other =
    rw (
      bad.1.read,
      bad.1.is_rule,
      false_from_ne_true _
          (λ test. bad.1.disagrees (tells bad.1.text.transitions bad.1.rule test)),
    ) refl

-- a test that gives a text exactly for UTF-8
pub is_ok-utf8 : {A E : Type 0} (r : Result A E) (bytes : List ℕ) (P : A → Type 0) (Q : E → Type 0)
    → MatchResult r (λ x. P x × IsUtf8 bytes) (λ e. ¬ (IsUtf8 bytes) × Q e)
    → is_ok r ≡ is_utf8 bytes
is_ok-utf8 (Ok x) bytes P Q told = sym (is_utf8-from_IsUtf8 bytes told.1)
is_ok-utf8 (Err e) bytes P Q told =
    sym (false_from_ne_true _ (λ test. told.0 (IsUtf8-from_is_utf8 bytes test)))
