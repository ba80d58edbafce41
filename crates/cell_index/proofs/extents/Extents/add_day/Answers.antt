use Rattle.std.proofs.Common.{arith, ◌≡◌, ◌≤◌, ◌+◌, ◌∙◌, ap, sym, ℕ, length, Some, None, cond}
use Rattle.std.specs.Prelude.{option_copied}
use Rattle.std.specs.Str.{bytes_eq}
use Rattle.indexmap.specs.IndexMap.{get}
use Rattle.cell_index.specs.declared.extents.Extents.{Extents}
use Rattle.cell_index.proofs.ExtentLemmas.{extents_day, few_days, grown}
use Rattle.cell_index.proofs.extents.Extents.add_day.Goals.{in-Some, in-None}
use Rattle.cell_index.proofs.extents.Extents.add_day.Goals as goal

pub returns-clause-known : goal.returns-clause-known
returns-clause-known c cells cell are own whole none =
    let same : c.match-get.self ≡ c.args.self.now =
    elim c.match-get.branch [
      | in-Some w ↦ w.self-is
      | in-None w ↦ w.self-is
    ] in
    extents_day cells cell c.args.sli c.args.self.now (record { known = c.insert.new.self })
    c.match-get.extent are own none
    (elim c.match-get.branch [
      | in-Some w ↦
          let kept = w.in-Some.extent.now in
          let is : Some kept ≡ get bytes_eq c.args.self.now.known c.args.sli =
          ap option_copied (sym w.in-Some.is) ∙ c.get.ensures.value in
          let few : kept.days ≤ length cells =
          few_days cells c.args.sli kept (is ∙ are.known c.args.sli) in
          let more : w.saturating_add.result ≡ kept.days + 1 =
          grind (arith, w.saturating_add.ensures, few, whole, c.requires.few) in
          w.extent-is ∙ ap (λ (days : ℕ). record { first = kept.first; days = days }) more
          ∙ ap (λ known. grown known (length cells)) is
      | in-None w ↦
          let is : None ≡ get bytes_eq c.args.self.now.known c.args.sli =
          ap option_copied (sym w.in-None.is) ∙ c.get.ensures.value in
          w.extent-is ∙ ap (λ (place : ℕ). record { first = place; days = 1 }) whole
          ∙ ap (λ known. grown known (length cells)) is
    ])
    (λ other. (rw c.unwrap.ensures at c.insert.ensures.updates).0 other ∙ ap (λ (e : Extents). cond
    (bytes_eq c.args.sli other) (Some c.match-get.extent) (get bytes_eq e.known other)) same)
