-- Targets that are a path alone, and what their messages stand for.
use Rattle.std.proofs.Common.{◌≡◌, ◌∙◌, ◌<◌, ◌≤◌, ℕ, true, false, List, ◌++◌, length, take}
use Rattle.std.proofs.Common.{get_or, Some, None, Ok, sym, ap, subst, arith, take_all}
use Rattle.std.proofs.Common.{length-append}
use Rattle.std.specs.Prelude.{◌==◌}
use Rattle.std.specs.List.{list_all, position_or_len}
use Rattle.std.proofs.lemmas.List.Sums.{AllPass-from_list_all, position_or_len_is}
use Rattle.exact_fraction.specs.ZoneName.{is_zone_byte}
use Rattle.httparse.specs.Grammar.{RequestHead}
use Rattle.message_heads.specs.Streams.{said_of}
use Rattle.message_heads.specs.Targets.{path_of}
use Rattle.message_heads.proofs.TargetLemmas.{query_none}
use Rattle.record_form.specs.declared.Command.{Command}
use Rattle.record_form.specs.declared.Request.TheVariants.{Change}
use Rattle.wire_routes.specs.declared.method.Method.{Method}
use Rattle.wire_routes.specs.declared.place.Place.{Place}
use Rattle.wire_routes.specs.Methods.{method_of}
use Rattle.wire_routes.specs.Places.{IsPath}
use Rattle.wire_routes.specs.Requests.{StandsFor, answer_at}
use Rattle.export_heard.proofs.Digits.{IsName, all_joined}

-- a path of the bytes of names, and not too long
pub record IsPlain (target : List ℕ) : Type 0 where
  pub some : 0 < length target
  pub short : length target ≤ 128
  pub bytes : list_all is_zone_byte target ≡ true

-- a word and a name behind it
pub named : (word name : List ℕ) → list_all is_zone_byte word ≡ true → length word ≤ 60
    → IsName name → IsPlain (word ++ name)
named word name plain few is =
    let l = length-append word name in
    let s = is.size in
    record {
      some = omega (arith, l, s.0);
      short = omega (arith, l, s.1);
      bytes = all_joined is_zone_byte word name plain is.bytes;
    }

no_mark : (b : ℕ) → is_zone_byte b ≡ true → (b == 63) ≡ false
no_mark b h = grind (arith)

nowhere : (target : List ℕ) → list_all is_zone_byte target ≡ true
    → position_or_len (λ b. b == 63) target ≡ length target
nowhere target all =
    position_or_len_is (λ b. b == 63) target (length target) 0 (omega arith)
    (λ k before. no_mark (get_or target k 0)
    (AllPass-from_list_all is_zone_byte target all k 0 before))
    (λ inside. absurd (omega arith))

path_is : (target : List ℕ) → list_all is_zone_byte target ≡ true → path_of target ≡ target
path_is target all = ap (λ (k : ℕ). take k target) (nowhere target all)
    ∙ take_all (length target) target (omega arith)

-- what a message stands for whose target is a place's path alone
pub stands_for : (place : Place) (method : Method) (head : RequestHead) (body : List ℕ)
    (change : Command) → list_all is_zone_byte head.target ≡ true → IsPath head.target place
    → method_of head.method ≡ method → Ok (Change change) ≡ answer_at place method None body
    → StandsFor (said_of head body) (Ok (Change change))
stands_for place method head body change bytes at is asks = (
  Some place,
  subst (λ t. IsPath t place) (sym (path_is head.target bytes)) at,
  asks ∙ ap (λ m. answer_at place m None body) (sym is)
      ∙ ap (λ q. answer_at place (method_of head.method) q body)
      (query_none head.target (nowhere head.target bytes)),
)
