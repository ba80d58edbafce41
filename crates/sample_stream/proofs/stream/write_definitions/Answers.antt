use Rattle.std.proofs.Common.{◌≡◌, ◌++◌, ◌∙◌, ap, subst, codes, ℕ, List, length, OnOk, OnErr, refl}
use Rattle.office_outside.specs.Told.{Gained, GainedPrefix}
use Rattle.request_texts.specs.Requests.{head_of}
use Rattle.sample_stream.specs.Stream.{definitions, documents}
use Rattle.sample_stream.specs.declared.documents.TheConstants.{ALERT_TARGETS, SHOP}
use Rattle.sample_stream.proofs.stream.write_definitions.Goals as goal

-- the pieces are the request
whole : (head first second : List ℕ) → head ≡ head_of (codes "POST /objects") (length documents)
    → first ≡ ALERT_TARGETS.now → second ≡ SHOP.now
    → head ++ (first ++ (codes "---\n" ++ second)) ≡ definitions
unfolding definitions documents
whole head first second head_is first_is second_is = rw (head_is, first_is, second_is) refl

pub returns-clause-gained : goal.returns-clause-gained
returns-clause-gained g c =
    let head = c.as_bytes.ensures ∙ c.head-head.ensures
    ∙ ap (head_of (codes "POST /objects")) c.documents_length.ensures in
    subst
    (λ (l : List ℕ).
    OnOk c.write_documents.result
    (Gained l (g.K.Sink.held c.args.output.now) (g.K.Sink.held c.write_documents.new.output)))
    (whole _ _ _ head c.as_bytes-2.ensures.value c.as_bytes-3.ensures.value)
    c.write_documents.ensures.gained

pub returns-clause-part : goal.returns-clause-part
returns-clause-part g c =
    let head = c.as_bytes.ensures ∙ c.head-head.ensures
    ∙ ap (head_of (codes "POST /objects")) c.documents_length.ensures in
    subst
    (λ (l : List ℕ).
    OnErr c.write_documents.result
    (GainedPrefix l (g.K.Sink.held c.args.output.now) (g.K.Sink.held c.write_documents.new.output)))
    (whole _ _ _ head c.as_bytes-2.ensures.value c.as_bytes-3.ensures.value)
    c.write_documents.ensures.part
