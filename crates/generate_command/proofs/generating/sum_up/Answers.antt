use Rattle.std.proofs.Common.{rules, ◌≡◌, ◌∙◌, ℕ, length, ap, subst, string_bytes}
use Rattle.std.proofs.lemmas.Result.{IfOk-weaker}
use Rattle.office_history.specs.History.{Office, current_in}
use Rattle.office_keep.specs.Office.{OfficeOn}
use Rattle.generate_command.specs.Summary.{IsSummary}
use Rattle.generate_command.proofs.generating.sum_up.Goals as goal

pub returns : goal.returns
returns g c =
    let kept = c.args.seat.counter.kept in
    let given = ap (λ (k : OfficeOn g.row.D.Denot). k.office) c.give_back-office.ensures in
    let entries : c.length-entries.result ≡ length kept.office.history =
    c.length-entries.ensures ∙ ap (λ (o : Office). length o.history) given in
    let cells : c.cells-cells.result ≡ length (current_in kept.office.history) =
    c.cells-cells.ensures
    ∙ ap (λ (o : Office). length (current_in o.history)) (c.core.ensures ∙ given) in
    IfOk-weaker c.summary.result _ _
    (λ text is. record {
      all = search rules;
      lacks = search rules;
      none = c.is_whole.ensures (search rules);
      exact =
          subst
          (λ (n : ℕ).
          IsSummary c.args.seat.tally (length kept.office.history) n (string_bytes text)) cells
          (subst
          (λ (n : ℕ).
          IsSummary c.args.seat.tally n c.cells-cells.result (string_bytes text)) entries is);
    }) c.summary.ensures
