use Rattle.std.proofs.Common.{◌≡◌, ◌++◌, ◌∙◌, subst, append-nil, refl, List, ℕ, OnOk, OnErr, codes}
use Rattle.office_outside.specs.Told.{Gained, GainedPrefix}
use Rattle.request_texts.specs.Requests.{head_of}
use Rattle.sample_stream.specs.Stream.{questions}
use Rattle.sample_stream.proofs.stream.write_questions.Goals as goal

-- the heads are the requests
whole : (tick budgets : List ℕ) → tick ≡ head_of (codes "POST /tick") 0
    → budgets ≡ head_of (codes "GET /budgets/shop-slo") 0 → tick ++ budgets ≡ questions
unfolding questions
whole tick budgets tick_is budgets_is =
    rw (
      tick_is,
      budgets_is,
      append-nil (head_of (codes "POST /tick") 0),
      append-nil (head_of (codes "GET /budgets/shop-slo") 0),
    ) refl

pub returns-clause-gained : goal.returns-clause-gained
returns-clause-gained g c =
    subst
    (λ (l : List ℕ).
    OnOk c.write_both.result
    (Gained l (g.K.Sink.held c.args.output.now) (g.K.Sink.held c.write_both.new.output)))
    (whole _ _ (c.as_bytes.ensures ∙ c.head-tick.ensures)
    (c.as_bytes-2.ensures ∙ c.head-budgets.ensures)) c.write_both.ensures.gained

pub returns-clause-part : goal.returns-clause-part
returns-clause-part g c =
    subst
    (λ (l : List ℕ).
    OnErr c.write_both.result
    (GainedPrefix l (g.K.Sink.held c.args.output.now) (g.K.Sink.held c.write_both.new.output)))
    (whole _ _ (c.as_bytes.ensures ∙ c.head-tick.ensures)
    (c.as_bytes-2.ensures ∙ c.head-budgets.ensures)) c.write_both.ensures.part
