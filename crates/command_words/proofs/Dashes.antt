-- Words of which one begins with a hyphen are no form of a command.
use Rattle.std.proofs.Common.{◌≡◌, ◌||◌, ◌&&◌, ◌==◌, ◌⊎◌, ℕ, Bool, true, false, not, cond, List, []}
use Rattle.std.proofs.Common.{◌∷◌, length, Option, Some, None, option_map, codes}
use Rattle.std.proofs.Common.{refl, sym, ap, subst, inl, inr}
use Rattle.std.specs.Prelude.{Err}
use Rattle.std.specs.List.{list_any}
use Rattle.std.specs.Option.{option_and_then}
use Rattle.std.specs.Result.{result_ok}
use Rattle.std.specs.Str.{bytes_eq}
use Rattle.std.proofs.lemmas.Bool.Decides.{Decides-eqb}
use Rattle.slo_limits.specs.declared.TheConstants.{MAX_MINUTE}
use Rattle.exact_fraction.specs.Digits.{is_number, leads_with_zero, plain_number_within}
use Rattle.exact_fraction.specs.DecimalCuts.{decimal_of}
use Rattle.exact_fraction.specs.declared.DecimalFault.TheVariants.{BadByte, Empty}
use Rattle.budget_command.specs.Order.{budget_order}
use Rattle.sample_stream.specs.declared.stream.TheConstants.{MAX_NUMBER}
use Rattle.command_words.specs.Commands.{asked_alone, asked_named, asked_of, command_named}
use Rattle.command_words.specs.Commands.{is_dashed, max_port, minute_asked, not_zero, number_asked}
use Rattle.command_words.specs.Commands.{counters_asked, part_asked, port_asked}
use Rattle.command_words.specs.declared.reading.TheConstants.{MAX_PARTS}
use Rattle.command_words.specs.declared.invocation.Invocation.TheVariants as invocation
use Rattle.command_words.specs.declared.invocation.InputCommand.TheVariants as commands

module _ {A : Type 0} where
  none_in_both : (b : Bool) (x y : Option A) → x ≡ None → y ≡ None → cond b x y ≡ None
  none_in_both true x y first second = first
  none_in_both false x y first second = second

  none_after : {B : Type 0} (o : Option B) (f : B → Option A) → ((x : B) → f x ≡ None)
      → option_and_then f o ≡ None
  none_after None f none = refl
  none_after (Some x) f none = none x

and_false : (b : Bool) → (b && false) ≡ false
and_false true = refl
and_false false = refl

-- a hyphen begins no number
no_number : (most : ℕ) (word : List ℕ) → plain_number_within most (45 ∷ word) ≡ None
no_number most word =
    let none : is_number (45 ∷ word) ≡ false = and_false (not (length (45 ∷ word) == 0)) in
    none_in_both (leads_with_zero (45 ∷ word)) None _ refl (rw none refl)

-- nor a decimal
no_decimal : (word : List ℕ) → decimal_of (45 ∷ word) ≡ None
no_decimal word = by (length (45 ∷ word) == 0)
  where
    by : (b : Bool) → result_ok {T = ℕ} (cond b (Err Empty) (Err (BadByte 0))) ≡ None
    by true = refl
    by false = refl

either : (a b : Bool) → (a || b) ≡ true → (a ≡ true) ⊎ (b ≡ true)
either true b h = inl refl
either false b h = inr h

-- what holds of each word behind a hyphen holds of each that begins with one
with_dash : (P : List ℕ → Type 0) → ((word : List ℕ) → P (45 ∷ word)) → (w : List ℕ)
    → is_dashed w ≡ true → P w
with_dash P p [] h = cc h
with_dash P p (x ∷ xs) h =
    subst (λ (y : ℕ). P (y ∷ xs)) (sym ((Decides-eqb x 45).0 h)) (p xs)

-- a word begins with a hyphen
abbrev pub HasDash : List (List ℕ) → Type 0
HasDash ws = list_any is_dashed ws ≡ true

only_one : (w : List ℕ) → HasDash (w ∷ []) → is_dashed w ≡ true
only_one w h =
    elim (either (is_dashed w) false h) [ inl dashed ↦ dashed | inr none ↦ cc none ]

no_dashed_number : (most : ℕ) (w : List ℕ) → is_dashed w ≡ true → plain_number_within most w ≡ None
no_dashed_number most w h =
    with_dash (λ (v : List ℕ). plain_number_within most v ≡ None) (no_number most) w h

none_alone : {A : Type 0} (a : A) (ws : List (List ℕ)) → HasDash ws → asked_alone a ws ≡ None
none_alone a [] h = cc h
none_alone a (w ∷ ws) h = refl

none_minute : (ws : List (List ℕ)) → HasDash ws → minute_asked ws ≡ None
none_minute [] h = cc h
none_minute (w ∷ []) h =
    ap (option_map Some) (no_dashed_number MAX_MINUTE w (only_one w h))
none_minute (w ∷ v ∷ ws) h = refl

none_number : (ws : List (List ℕ)) → HasDash ws → number_asked ws ≡ None
none_number [] h = cc h
none_number (w ∷ []) h =
    ap (option_and_then not_zero) (no_dashed_number MAX_NUMBER w (only_one w h))
none_number (w ∷ v ∷ ws) h = refl

none_port : (ws : List (List ℕ)) → HasDash ws → port_asked ws ≡ None
none_port [] h = cc h
none_port (w ∷ []) h =
    ap (option_and_then not_zero) (no_dashed_number max_port w (only_one w h))
none_port (w ∷ v ∷ ws) h = refl

none_part : (ws : List (List ℕ)) → HasDash ws → part_asked ws ≡ None
none_part [] h = cc h
none_part (w ∷ []) h =
    ap (option_and_then not_zero) (no_dashed_number MAX_PARTS w (only_one w h))
none_part (w ∷ v ∷ ws) h = refl

none_counters : (ws : List (List ℕ)) → HasDash ws → counters_asked ws ≡ None
none_counters [] h = cc h
none_counters (w ∷ []) h = let dashed : is_dashed w ≡ true = only_one w h in rw dashed refl
none_counters (w ∷ v ∷ ws) h = refl

none_order : (ws : List (List ℕ)) → HasDash ws → budget_order ws ≡ None
none_order [] h = cc h
none_order (target ∷ []) h = refl
none_order (target ∷ from ∷ []) h = refl
none_order (target ∷ from ∷ to ∷ []) h =
    elim (either (is_dashed target) (list_any is_dashed (from ∷ to ∷ [])) h) [
      | inl dashed ↦
          let none : decimal_of target ≡ None =
          with_dash (λ (v : List ℕ). decimal_of v ≡ None) no_decimal target dashed in
          rw none refl
      | inr h ↦
          elim (either (is_dashed from) (list_any is_dashed (to ∷ [])) h) [
            | inl dashed ↦
                none_after (decimal_of target) _
                (λ t. rw (no_dashed_number MAX_MINUTE from dashed) refl)
            | inr h ↦
                none_after (decimal_of target) _
                (λ t. none_after (plain_number_within MAX_MINUTE from) _
                (λ f. rw (no_dashed_number MAX_MINUTE to (only_one to h)) refl))
          ]
    ]
none_order (target ∷ from ∷ to ∷ w ∷ ws) h = refl

none_command : (name : List ℕ) (ws : List (List ℕ)) → HasDash ws → command_named name ws ≡ None
none_command name ws h =
    none_in_both (bytes_eq name (codes "budget")) _ _
    (ap (option_map commands.Budget) (none_order ws h))
    (none_in_both (bytes_eq name (codes "check")) _ _ (none_alone commands.Check ws h) refl)

none_named : (name : List ℕ) (ws : List (List ℕ)) → HasDash ws → asked_named name ws ≡ None
none_named name ws h =
    none_in_both (bytes_eq name (codes "init")) _ _
    (ap (option_map invocation.Init) (none_minute ws h))
    (none_in_both (bytes_eq name (codes "report")) _ _
    (ap (option_map invocation.Report) (none_minute ws h))
    (none_in_both (bytes_eq name (codes "pipe")) _ _ (none_alone invocation.Pipe ws h)
    (none_in_both (bytes_eq name (codes "serve")) _ _
    (ap (option_map invocation.Serve) (none_port ws h))
    (none_in_both (bytes_eq name (codes "generate")) _ _
    (ap (option_map invocation.Generate) (none_number ws h))
    (none_in_both (bytes_eq name (codes "counters")) _ _
    (ap (option_map invocation.Counters) (none_counters ws h))
    (none_in_both (bytes_eq name (codes "migrate")) _ _ (none_alone invocation.Migrate ws h)
    (none_in_both (bytes_eq name (codes "export")) _ _
    (ap (option_map invocation.Export) (none_part ws h))
    (none_in_both (bytes_eq name (codes "follow")) _ _ (none_alone invocation.Follow ws h)
    (ap (option_map invocation.Answer) (none_command name ws h))))))))))

pub none_of : (ws : List (List ℕ)) → HasDash ws → asked_of ws ≡ None
none_of [] h = cc h
none_of (w ∷ ws) h =
    elim (either (is_dashed w) (list_any is_dashed ws) h) [
      | inl dashed ↦
          with_dash (λ (v : List ℕ). asked_of (v ∷ ws) ≡ None) (λ word. refl) w dashed
      | inr dashed ↦ none_named w ws dashed
    ]
