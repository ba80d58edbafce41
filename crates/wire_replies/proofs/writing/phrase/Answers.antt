use Rattle.std.proofs.Common.{rules, ◌≡◌, sym}
use Rattle.wire_replies.specs.Heads.{phrase_of}
use Rattle.wire_replies.proofs.Phrases.{no_phrase_text, phrase_is_short}
use Rattle.wire_replies.proofs.writing.phrase.Goals as goal

pub returns-in-Ok-clause-short : goal.returns-in-Ok-clause-short
returns-in-Ok-clause-short c =
    let text : c.unwrap_or.result.now ≡ phrase_of c.args.status = search rules in
    rw text (phrase_is_short c.args.status c.in-Ok.ensures.0.1)

pub returns-in-Err-clause-text : goal.returns-in-Err-clause-text
returns-in-Err-clause-text c = sym (no_phrase_text c.args.status c.in-Err.ensures)
