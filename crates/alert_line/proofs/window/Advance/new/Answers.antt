use Rattle.std.proofs.Common.{◌≡◌, ◌+◌, ap, ◌∙◌, arith}
use Rattle.slo_terms.specs.Sums.{slices_until}
use Rattle.window_sums.specs.Slices.{leaf_at, width_of}
use Rattle.alert_line.proofs.window.Advance.new.Goals as goal

pub returns-clause-value : goal.returns-clause-value
returns-clause-value g c =
    let sums = c.args.sums.now in
    let minute = c.args.minute in
    let wide : c.width-width.result ≡ width_of sums.method = c.width-width.ensures.value in
    let last : c.slices_until-last.result ≡ slices_until (width_of sums.method) minute =
    c.slices_until-last.ensures ∙ ap (λ w. slices_until w minute) wide in
    record {
      early = c.requires;
      wide = wide;
      some = c.width-width.ensures.some;
      end = c.slices_until-end.ensures ∙ ap (λ w. slices_until w (minute + 1)) wide;
      gained = λ later. c.gained_leaf-leaf.ensures.value (omega (arith, last, later))
          ∙ ap (leaf_at sums) last;
    }
