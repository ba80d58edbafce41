-- The steps of an export stand for the requests that make its office anew.
use Rattle.std.proofs.Common.{◌≡◌, ◌∙◌, ℕ, zero, suc, ◌+◌, ◌-◌, Bool, true, false, cond}
use Rattle.std.proofs.Common.{List, [], ◌∷◌, ◌++◌, map, refl, sym, ap, subst, length, take, drop}
use Rattle.std.proofs.Common.{Some, option_map, is_some}
use Rattle.std.proofs.Common.{append_assoc}
use Rattle.std.proofs.Common.{◌*◌, length-append}
use Rattle.std.specs.Prelude.{slice_get}
use Rattle.std.specs.List.{AllByRecursion, flat_map}
use Rattle.std.proofs.lemmas.List.{drop-drop, length-drop, map-append}
use Rattle.sample_book.specs.declared.Exclusion.{Exclusion}
use Rattle.sample_book.specs.declared.Row.{Row}
use Rattle.object_terms.specs.declared.Kind.{Kind}
use Rattle.object_terms.specs.declared.Object.{Object}
use Rattle.catalog_terms.specs.Keys.{is_kind}
use Rattle.record_form.specs.declared.Command.{Command}
use Rattle.record_form.specs.declared.Command.TheVariants as commands
use Rattle.office_history.specs.Catalog.{catalog_in}
use Rattle.office_history.specs.History.{Office, current_in, exclusions_in}
use Rattle.office_history.specs.Legal.{IsLegal}
use Rattle.office_history.specs.Objectives.{slo_named}
use Rattle.office_history.specs.Versions.{is_upgraded}
use Rattle.office_history.specs.Zones.{bytes_named, zones_in}
use Rattle.export_terms.specs.Moves.{definition, exclusion_moves, export_kinds, in_order, moves}
use Rattle.export_terms.specs.Moves.{of_kind, of_members, upgrades, zone_move}
use Rattle.export_terms.specs.Parts.{in_thousands, part_of, parts_within}
use Rattle.export_terms.specs.Zones.{HaveOwnNames, zones_by_name}
use Rattle.export_terms.proofs.ZoneLemmas.{all_by_name, legal_zones_have_own_names, named_in}
use Rattle.office_export.specs.Export.{part_text}
use Rattle.office_export.specs.Steps.{Content, command_at, content_of, exclusion_step}
use Rattle.office_export.specs.Steps.{exclusion_steps, object_steps}
use Rattle.office_export.specs.Steps.{row_steps, steps_of, steps_of_kind, text_at, text_if}
use Rattle.office_export.specs.Steps.{upgrade_steps, zone_steps}
use Rattle.office_export.specs.declared.step.Step.{Step}
use Rattle.office_export.specs.declared.step.Step.TheVariants as steps

-- PLACES

get_behind : {A : Type 0} (before : List A) (x : A) (rest : List A)
    → slice_get (before ++ x ∷ rest) (length before) ≡ Some x
get_behind [] x rest = refl
get_behind (y ∷ before) x rest = get_behind before x rest

next_place : {A : Type 0} (before : List A) (x : A) → length (before ++ x ∷ []) ≡ length before + 1
next_place before x = length-append before (x ∷ [])

-- THE UPGRADE AND THE ZONES

upgrade_is : (c : Content) (upgraded : Bool)
    → map (command_at c) (upgrade_steps upgraded) ≡ map Some (upgrades upgraded)
upgrade_is c true = refl
upgrade_is c false = refl

zones_are : (c : Content) (zones : List (List ℕ × List ℕ))
    → AllByRecursion (λ z. bytes_named c.zones z.0 ≡ Some z.1) zones
    → map (command_at c) (map (λ (z : List ℕ × List ℕ). steps.Zone z.0) zones)
    ≡ map Some (map zone_move zones)
zones_are c [] h = refl
zones_are c (z ∷ zs) h =
    (λ i. option_map (commands.PutZone z.0) (h.0 i)
    ∷ map (command_at c) (map (λ (z : List ℕ × List ℕ). steps.Zone z.0) zs))
    ∙ ap (λ cs. Some (zone_move z) ∷ cs) (zones_are c zs h.1)

-- OBJECTS

kind_is : (c : Content) (kind : Kind) (before rest : List Object)
    → c.members ≡ before ++ rest
    → map (command_at c) (steps_of_kind kind (length before) rest)
    ≡ map Some (map definition (of_kind rest kind))
kind_is c kind before [] whole = refl
kind_is c kind before (x ∷ rest) whole = by (is_kind x.kind kind)
    (ap (λ n. map (command_at c) (steps_of_kind kind n rest)) (sym (next_place before x))
    ∙ kind_is c kind (before ++ x ∷ []) rest
    (whole ∙ sym (append_assoc before (x ∷ []) rest)))
  where
    here : command_at c (steps.Object (length before)) ≡ Some (definition x)
    here = ap (λ (members : List Object). option_map definition (slice_get members (length before)))
        whole ∙ ap (option_map definition) (get_behind before x rest)

    by : (b : Bool) → map (command_at c) (steps_of_kind kind (length before + 1) rest)
        ≡ map Some (map definition (of_kind rest kind))
        → map (command_at c) (cond b
        (steps.Object (length before) ∷ steps_of_kind kind (length before + 1) rest)
        (steps_of_kind kind (length before + 1) rest))
        ≡ map Some (map definition (cond b (x ∷ of_kind rest kind) (of_kind rest kind)))
    by true more = λ i. here i ∷ more i
    by false more = more

objects_are : (c : Content) (kinds : List Kind)
    → map (command_at c) (object_steps (c.members) kinds)
    ≡ map Some (map definition (in_order (c.members) kinds))
objects_are c [] = refl
objects_are c (k ∷ ks) =
    let members : List Object = c.members in
    map-append (command_at c) (steps_of_kind k 0 members) (object_steps members ks)
    ∙ (λ i. kind_is c k [] members refl i ++ objects_are c ks i)
    ∙ sym (ap (map Some) (map-append definition (of_kind members k) (in_order members ks))
    ∙ map-append Some (map definition (of_kind members k))
    (map definition (in_order members ks)))

-- ROWS

rows_are : (c : Content) (fuel first : ℕ) (rows : List Row)
    → drop first c.rows ≡ rows
    → map (command_at c) (row_steps fuel first (length rows))
    ≡ map Some (map commands.Samples (parts_within fuel 1000 rows))
rows_are c zero first rows is = refl
rows_are c (suc fuel) first [] is = refl
rows_are c (suc fuel) first (x ∷ rows) is =
    let left : List Row = drop 1000 (x ∷ rows) in
    let next : drop (first + 1000) c.rows ≡ left =
    sym (drop-drop 1000 first c.rows) ∙ ap (drop 1000) is in
    (λ i. Some (commands.Samples (take 1000 (is i)))
    ∷ map (command_at c) (row_steps fuel (first + 1000) (sym (length-drop 1000 (x ∷ rows)) i)))
    ∙ ap (λ cs. Some (commands.Samples (take 1000 (x ∷ rows))) ∷ cs)
    (rows_are c fuel (first + 1000) left next)

-- EXCLUSIONS

exclusion_is : (c : Content) (place : ℕ) (kept : Exclusion × Bool) (members : List Object)
    → slice_get (c.made) place ≡ Some kept
    → map (command_at c) (exclusion_step members place kept)
    ≡ map Some (cond (is_some (slo_named members kept.0.slo)) (exclusion_moves kept) [])
exclusion_is c place kept members there = by (is_some (slo_named members kept.0.slo)) kept.1
  where
    put : command_at c (steps.Put place) ≡ Some (commands.Exclude kept.0)
    put = ap (option_map (λ (k : Exclusion × Bool). commands.Exclude k.0)) there

    lifted : command_at c (steps.Lift place) ≡ Some (commands.Lift kept.0.id)
    lifted = ap (option_map (λ (k : Exclusion × Bool). commands.Lift k.0.id)) there

    by : (a b : Bool) → map (command_at c) (cond a
        (steps.Put place ∷ cond b [] (steps.Lift place ∷ [])) [])
        ≡ map Some (cond a
        (commands.Exclude kept.0 ∷ cond b [] (commands.Lift kept.0.id ∷ [])) [])
    by false b = refl
    by true true = λ i. put i ∷ []
    by true false = λ i. put i ∷ lifted i ∷ []

exclusions_are : (c : Content) (members : List Object) (before rest : List (Exclusion × Bool))
    → c.made ≡ before ++ rest
    → map (command_at c) (exclusion_steps members (length before) rest)
    ≡ map Some (flat_map exclusion_moves (of_members members rest))
exclusions_are c members before [] whole = refl
exclusions_are c members before (k ∷ rest) whole =
    let there : slice_get (c.made) (length before) ≡ Some k =
    ap (λ (made : List (Exclusion × Bool)). slice_get made (length before)) whole
    ∙ get_behind before k rest in
    map-append (command_at c) (exclusion_step members (length before) k)
    (exclusion_steps members (length before + 1) rest)
    ∙ (λ i. exclusion_is c (length before) k members there i
    ++ (ap (λ n. map (command_at c) (exclusion_steps members n rest)) (sym (next_place before k))
    ∙ exclusions_are c members (before ++ k ∷ []) rest
    (whole ∙ sym (append_assoc before (k ∷ []) rest))) i)
    ∙ by (is_some (slo_named members k.0.slo))
  where
    by : (b : Bool) → map Some (cond b (exclusion_moves k) [])
        ++ map Some (flat_map exclusion_moves (of_members members rest))
        ≡ map Some (flat_map exclusion_moves
        (cond b (k ∷ of_members members rest) (of_members members rest)))
    by false = refl
    by true = sym (map-append Some (exclusion_moves k)
        (flat_map exclusion_moves (of_members members rest)))

-- TOGETHER

pub steps_are_moves : (o : Office) → IsLegal o.origin o.history
    → map (command_at (content_of o)) (steps_of (content_of o)) ≡ map Some (moves o)
steps_are_moves o legal =
    let h = o.history in
    let k : Content = content_of o in
    let zones = zones_in h in
    let own : HaveOwnNames zones = legal_zones_have_own_names o.origin h legal in
    let named : AllByRecursion (λ (z : List ℕ × List ℕ). bytes_named zones z.0 ≡ Some z.1)
    (zones_by_name zones) =
    all_by_name (λ (z : List ℕ × List ℕ). bytes_named zones z.0 ≡ Some z.1) zones
    (named_in zones own) in
    let a : List Step = upgrade_steps (is_upgraded h) in
    let b : List Step = zone_steps zones in
    let c : List Step = object_steps (catalog_in h) export_kinds in
    let d : List Step = row_steps (length (current_in h)) 0 (length (current_in h)) in
    let e : List Step = exclusion_steps (catalog_in h) 0 (exclusions_in h) in
    let ma : List Command = upgrades (is_upgraded h) in
    let mb : List Command = map zone_move (zones_by_name zones) in
    let mc : List Command = map definition (in_order (catalog_in h) export_kinds) in
    let md : List Command = map commands.Samples (in_thousands (current_in h)) in
    let me : List Command =
    flat_map exclusion_moves (of_members (catalog_in h) (exclusions_in h)) in
    map-append (command_at k) a (b ++ (c ++ (d ++ e)))
    ∙ (λ i. upgrade_is k (is_upgraded h) i
    ++ (map-append (command_at k) b (c ++ (d ++ e))
    ∙ (λ i. zones_are k (zones_by_name zones) named i
    ++ (map-append (command_at k) c (d ++ e)
    ∙ (λ i. objects_are k export_kinds i
    ++ (map-append (command_at k) d e
    ∙ (λ i. rows_are k (length (current_in h)) 0 (current_in h) refl i
    ++ exclusions_are k (catalog_in h) [] (exclusions_in h) refl i)
    ∙ sym (map-append Some md me)) i)
    ∙ sym (map-append Some mc (md ++ me))) i)
    ∙ sym (map-append Some mb (mc ++ (md ++ me)))) i)
    ∙ sym (map-append Some ma (mb ++ (mc ++ (md ++ me))))

-- TEXTS

taken_by : {A B : Type 0} (f : A → B) (n : ℕ) (xs : List A) → map f (take n xs) ≡ take n (map f xs)
taken_by f zero xs = refl
taken_by f (suc n) [] = refl
taken_by f (suc n) (x ∷ xs) = ap (λ ys. f x ∷ ys) (taken_by f n xs)

dropped_by : {A B : Type 0} (f : A → B) (n : ℕ) (xs : List A)
    → map f (drop n xs) ≡ drop n (map f xs)
dropped_by f zero xs = refl
dropped_by f (suc n) [] = refl
dropped_by f (suc n) (x ∷ xs) = dropped_by f n xs

part_by : {A B : Type 0} (f : A → B) (part : ℕ) (xs : List A)
    → map f (part_of part xs) ≡ part_of part (map f xs)
part_by f part xs =
    taken_by f 1000 (drop (1000 * (part - 1)) xs)
    ∙ ap (take 1000) (dropped_by f (1000 * (part - 1)) xs)

flat_by : {A B C : Type 0} (g : B → List C) (f : A → B) (xs : List A)
    → flat_map g (map f xs) ≡ flat_map (λ x. g (f x)) xs
flat_by g f [] = refl
flat_by g f (x ∷ xs) = ap (λ ys. g (f x) ++ ys) (flat_by g f xs)

-- the texts of a part's steps are the text of the part
pub part_is : (o : Office) (part : ℕ) (k : Content) → IsLegal o.origin o.history
    → content_of o ≡ k → flat_map (text_at k) (part_of part (steps_of k)) ≡ part_text part o
part_is o part k legal is =
    subst (λ (k : Content). flat_map (text_at k) (part_of part (steps_of k)) ≡ part_text part o) is
    (by_content (content_of o) (steps_are_moves o legal))
  where
    by_content : (c : Content) → map (command_at c) (steps_of c) ≡ map Some (moves o)
        → flat_map (text_at c) (part_of part (steps_of c)) ≡ part_text part o
    by_content c e =
        sym (flat_by text_if (command_at c) (part_of part (steps_of c)))
        ∙ ap (flat_map text_if) (part_by (command_at c) part (steps_of c)
        ∙ ap (part_of part) e ∙ sym (part_by Some part (moves o)))
        ∙ flat_by text_if Some (part_of part (moves o))
