-- Each change that has a record is heard as itself.
use Rattle.std.proofs.Common.{◌≡◌, ◌<◌, ◌≤◌, ◌^◌, ℕ, true, List, ◌∷◌, ◌++◌}
use Rattle.std.proofs.Common.{length}
use Rattle.std.proofs.Common.{None, Ok, decimal, codes, refl, sym, ap, subst, arith, length-append}
use Rattle.std.specs.Char.{is_ascii_digit}
use Rattle.std.specs.List.{list_all}
use Rattle.exact_fraction.specs.ZoneName.{is_zone_byte}
use Rattle.httparse.specs.Grammar.{IsToken, RequestHead}
use Rattle.message_heads.specs.Streams.{MessageIsWhole, Said, said_of}
use Rattle.object_terms.specs.declared.Kind.{Kind}
use Rattle.object_terms.specs.declared.Kind.TheVariants as kinds
use Rattle.object_terms.specs.Scalars.{kind_word}
use Rattle.record_form.specs.declared.Command.{Command}
use Rattle.record_form.specs.declared.Command.TheVariants.{Define, Remove, PutZone, Samples}
use Rattle.record_form.specs.declared.Command.TheVariants.{Exclude, Lift, Tick, Take, Upgrade}
use Rattle.record_form.specs.declared.Request.TheVariants.{Change}
use Rattle.record_form.specs.Ranges.{Fits}
use Rattle.request_texts.specs.Requests.{request}
use Rattle.wire_routes.specs.declared.method.Method.{Method}
use Rattle.wire_routes.specs.declared.method.Method.TheVariants.{Delete, Post, Put}
use Rattle.wire_routes.specs.declared.place.Place.{Place}
use Rattle.wire_routes.specs.declared.place.Place.TheVariants as place
use Rattle.wire_routes.specs.Laws.{OneAnswer}
use Rattle.wire_routes.specs.Methods.{method_of}
use Rattle.wire_routes.specs.Places.{IsPath}
use Rattle.wire_routes.specs.Requests.{StandsFor, answer_at, exclusion_answer}
use Rattle.wire_routes.specs.Requests.{samples_answer}
use Rattle.export_terms.specs.Texts.{body_of, target_of, text_of}
use Rattle.export_heard.specs.Heard.{IsRequestOf}
use Rattle.export_heard.proofs.Digits.{all_joined, decimal_all, decimal_short}
use Rattle.export_heard.proofs.Digits.{decimal_within, all_also, digit_zone, IsName}
use Rattle.export_heard.proofs.Digits.{label_name, zone_name}
use Rattle.export_heard.proofs.Paths.{IsPlain, named, stands_for}
use Rattle.export_heard.proofs.Heads.{delete_token, head_by, message_whole, post_token, put_token}
use Rattle.export_heard.proofs.Heads.{stays_open}
use Rattle.export_heard.proofs.Rows.{rows_size, samples_read}
use Rattle.export_heard.proofs.Exclusions.{exclusion_read, exclusion_size}

-- THE METHOD AND THE PATH OF A CHANGE

abbrev method_text : Command → List ℕ
method_text (Define text) = codes "POST"
method_text (Remove kind name) = codes "DELETE"
method_text (PutZone name bytes) = codes "PUT"
method_text (Samples rows) = codes "POST"
method_text (Exclude x) = codes "PUT"
method_text (Lift id) = codes "DELETE"
method_text Tick = codes "POST"
method_text (Take number) = codes "POST"
method_text Upgrade = codes "POST"

abbrev path_text : Command → List ℕ
path_text (Define text) = codes "/objects"
path_text (Remove kind name) = codes "/objects/" ++ (kind_word kind ++ 47 ∷ name)
path_text (PutZone name bytes) = codes "/zones/" ++ name
path_text (Samples rows) = codes "/samples"
path_text (Exclude x) = codes "/exclusions/" ++ x.id
path_text (Lift id) = codes "/exclusions/" ++ id
path_text Tick = codes "/tick"
path_text (Take number) = codes "/notices/" ++ (decimal number ++ codes "/take")
path_text Upgrade = codes "/upgrade"

target_is : (c : Command) → target_of c ≡ method_text c ++ 32 ∷ path_text c
target_is (Define text) = refl
target_is (Remove kind name) = refl
target_is (PutZone name bytes) = refl
target_is (Samples rows) = refl
target_is (Exclude x) = refl
target_is (Lift id) = refl
target_is Tick = refl
target_is (Take number) = refl
target_is Upgrade = refl

abbrev request_head : Command → RequestHead
request_head c = head_by (method_text c) (path_text c) (length (body_of c))

-- what the request of a change says
abbrev pub said_by : Command → Said
said_by c = said_of (request_head c) (body_of c)

-- METHODS

record IsMethod (method : List ℕ) (is : Method) : Type 0 where
  token : IsToken method
  short : length method ≤ 8
  known : method_of method ≡ is

post : IsMethod (codes "POST") Post
post = record { token = post_token; short = omega arith; known = refl }

put : IsMethod (codes "PUT") Put
put = record { token = put_token; short = omega arith; known = refl }

delete : IsMethod (codes "DELETE") Delete
delete = record { token = delete_token; short = omega arith; known = refl }

-- PATHS

kind_plain : (kind : Kind) → (list_all is_zone_byte (kind_word kind) ≡ true)
    × (length (kind_word kind) ≤ 23)
kind_plain kinds.DataSource = (refl, omega arith)
kind_plain kinds.Service = (refl, omega arith)
kind_plain kinds.Sli = (refl, omega arith)
kind_plain kinds.Slo = (refl, omega arith)
kind_plain kinds.AlertPolicy = (refl, omega arith)
kind_plain kinds.AlertCondition = (refl, omega arith)
kind_plain kinds.AlertNotificationTarget = (refl, omega arith)

object_plain : (kind : Kind) (name : List ℕ) → IsName name
    → IsPlain (codes "/objects/" ++ (kind_word kind ++ 47 ∷ name))
object_plain kind name is =
    let k = kind_plain kind in
    let a = length-append (codes "/objects/") (kind_word kind ++ 47 ∷ name) in
    let b = length-append (kind_word kind) (47 ∷ name) in
    let nine : length (codes "/objects/") ≡ 9 = refl in
    let s = is.size in
    record {
      some = omega (arith, a, nine);
      short = omega (arith, a, b, nine, k.1, s.1);
      bytes = all_joined is_zone_byte (codes "/objects/") (kind_word kind ++ 47 ∷ name) refl
          (all_joined is_zone_byte (kind_word kind) (47 ∷ name) k.0 is.bytes);
    }

take_plain : (number : ℕ) → number < 2 ^ 64
    → IsPlain (codes "/notices/" ++ (decimal number ++ codes "/take"))
take_plain number small =
    let a = length-append (codes "/notices/") (decimal number ++ codes "/take") in
    let b = length-append (decimal number) (codes "/take") in
    let nine : length (codes "/notices/") ≡ 9 = refl in
    let five : length (codes "/take") ≡ 5 = refl in
    let s = decimal_short number small in
    record {
      some = omega (arith, a, nine);
      short = omega (arith, a, b, nine, five, s);
      bytes = all_joined is_zone_byte (codes "/notices/") (decimal number ++ codes "/take") refl
          (all_joined is_zone_byte (decimal number) (codes "/take")
          (all_also is_ascii_digit is_zone_byte digit_zone (decimal number)
          (decimal_all number small)) refl);
    }

fixed : (path : List ℕ) → 0 < length path → length path ≤ 128 → list_all is_zone_byte path ≡ true
    → IsPlain path
fixed path some short bytes = record { some = some; short = short; bytes = bytes }

-- CHANGES

-- what is known of a change's request
record IsSaid (c : Command) : Type 0 where
  token : IsToken (method_text c)
  word : length (method_text c) ≤ 8
  plain : IsPlain (path_text c)
  few : length (body_of c) ≤ 1048576
  stands : StandsFor (said_by c) (Ok (Change c))

said : (c : Command) (p : Place) (method : Method) → IsMethod (method_text c) method
    → IsPlain (path_text c) → length (body_of c) ≤ 1048576 → IsPath (path_text c) p
    → Ok (Change c) ≡ answer_at p method None (body_of c) → IsSaid c
said c p method is plain few at asks = record {
  token = is.token;
  word = is.short;
  plain = plain;
  few = few;
  stands = stands_for p method (request_head c) (body_of c) c plain.bytes at is.known asks;
}

is_said : (c : Command) → Fits c → IsSaid c
is_said (Define text) fits = said (Define text) place.Objects Post post
    (fixed (codes "/objects") (omega arith) (omega arith) refl) (omega (arith, fits)) refl refl
is_said (Remove kind name) fits = said (Remove kind name) (place.Object kind name) Delete delete
    (object_plain kind name (label_name name fits)) (omega arith) (refl, fits) refl
is_said (PutZone name bytes) fits = said (PutZone name bytes) (place.Zone name) Put put
    (named (codes "/zones/") name refl (omega arith) (zone_name name fits.0))
    (omega (arith, fits.1)) (refl, fits.0) refl
is_said (Samples rows) fits =
    let few = rows_size rows fits.1 in
    said (Samples rows) place.Samples Post post
    (fixed (codes "/samples") (omega arith) (omega arith) refl)
    (omega (arith, few, fits.0)) refl (sym (ap samples_answer (samples_read rows fits.1)))
is_said (Exclude x) fits = said (Exclude x) (place.Exclusion x.id) Put put
    (named (codes "/exclusions/") x.id refl (omega arith) (label_name x.id fits.id))
    (exclusion_size x fits) (refl, fits.id) (ap exclusion_answer (exclusion_read x fits))
is_said (Lift id) fits = said (Lift id) (place.Exclusion id) Delete delete
    (named (codes "/exclusions/") id refl (omega arith) (label_name id fits)) (omega arith)
    (refl, fits) refl
is_said Tick fits = said Tick place.Tick Post post
    (fixed (codes "/tick") (omega arith) (omega arith) refl) (omega arith) refl refl
is_said (Take number) fits = said (Take number) (place.Take number) Post post
    (take_plain number (omega (arith, fits))) (omega arith) (
      decimal number,
      refl,
      decimal_within 4294967295 number (omega (arith, fits))
          (omega (arith, fits)),
    ) refl
is_said Upgrade fits = said Upgrade place.Upgrade Post post
    (fixed (codes "/upgrade") (omega arith) (omega arith) refl) (omega arith) refl refl

-- a change's request is a whole message, whatever follows
pub change_whole : (c : Command) (more : List ℕ) → Fits c
    → MessageIsWhole (text_of c ++ more) (length (text_of c)) (said_by c)
change_whole c more fits =
    let is = is_said c fits in
    subst (λ (t : List ℕ). MessageIsWhole (request t (body_of c) ++ more)
    (length (request t (body_of c))) (said_by c)) (sym (target_is c))
    (message_whole (method_text c) (path_text c) (body_of c) more is.token is.word is.plain is.few)

-- and it stands for the change alone
pub change_stands : OneAnswer → (c : Command) → Fits c → IsRequestOf (said_by c) c
change_stands one c fits = record {
  stands = (is_said c fits).stands;
  alone = λ answer other. one (said_by c) answer (Ok (Change c)) other (is_said c fits).stands;
  stays = stays_open (method_text c) (path_text c) (length (body_of c));
}
