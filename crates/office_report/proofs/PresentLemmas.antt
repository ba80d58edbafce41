-- The present of a legal history lies in its range.
use Rattle.std.proofs.Common.{◌≡◌, ◌<◌, ℕ, max, List, [], ◌∷◌, ◌++◌, arith}
use Rattle.std.proofs.lemmas.List.Sums.{fold-append}
use Rattle.record_form.specs.declared.Entry.{Entry}
use Rattle.office_history.specs.History.{end_of, present}
use Rattle.office_history.specs.Legal.{IsLegal, empty, followed, office}

-- the present of a history with one entry more
present_more : (origin : ℕ) (h : List Entry) (e : Entry) →
    present (office origin (h ++ e ∷ [])) ≡ max (present (office origin h)) e.moment
present_more origin h e =
    fold-append (λ greatest (e : Entry). max greatest e.moment) origin h (e ∷ [])

pub present_in_range : (origin : ℕ) {h : List Entry} → IsLegal origin h →
    present (office origin h) < end_of origin
present_in_range origin empty = omega arith
present_in_range origin (followed {h} e before follows) =
    let now : present (office origin (h ++ e ∷ [])) ≡ max (present (office origin h)) e.moment =
    present_more origin h e in
    let earlier : present (office origin h) < end_of origin = present_in_range origin before in
    omega (arith, follows.in_range)
