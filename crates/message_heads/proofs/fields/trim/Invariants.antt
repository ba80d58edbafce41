use Rattle.std.proofs.Common.{◌≡◌, length, reverse}
use Rattle.httparse.specs.Grammar.{skip_ows}
use Rattle.message_heads.proofs.fields.trim.Given as goal

abbrev pub invariant-front : goal.invariant-front
invariant-front l = skip_ows l.item ≡ skip_ows l.bytes

abbrev pub decreases-front : goal.decreases-front
decreases-front l = length l.item

abbrev pub invariant-back : goal.invariant-back
invariant-back l = skip_ows (reverse l.item) ≡ skip_ows (reverse (skip_ows l.bytes))

abbrev pub decreases-back : goal.decreases-back
decreases-back l = length l.item
