-- Each object that a document stands for is written as a document that stands for it alone.
use Rattle.std.proofs.Common.{◌≡◌, true, false, List, [], ◌∷◌, ◌++◌, Some, None, Ok, Err, cond}
use Rattle.std.proofs.Common.{refl, sym, ap, ◌∙◌, subst}
use Rattle.std.specs.Prelude.{not}
use Rattle.std.specs.List.{AllByRecursion}
use Rattle.yaml_terms.specs.Tree.{Tree, mapping, sequence, scalar, Entries, no_entries, entry}
use Rattle.yaml_terms.specs.Spelling.{meant}
use Rattle.object_terms.specs.declared.object.Object.{Object}
use Rattle.object_terms.specs.declared.object.Body.{Body}
use Rattle.object_terms.specs.declared.metadata.Metadata.{Metadata}
use Rattle.object_terms.specs.declared.kind.Kind.{Kind}
use Rattle.object_terms.specs.declared.kind.Kind.TheVariants as kinds
use Rattle.object_terms.specs.declared.fault.Rule.TheVariants as rules
use Rattle.object_terms.specs.Form.{Key, Answer, gives, refused, after, and_then, on_some, told}
use Rattle.object_terms.specs.Form.{is_null, field_of, closed, FieldTable, done, next_line}
use Rattle.object_terms.specs.Form.{answer_by, required, map_with}
use Rattle.object_terms.specs.Metadata.{metadata, object_with}
use Rattle.object_terms.specs.Scalars.{version, version_text, version_value, kind, kind_word}
use Rattle.object_terms.specs.AlertPolicy.{policy_body}
use Rattle.object_terms.specs.Document.{body_form, body, document, with_own, objects_of, written}
use Rattle.object_terms.proofs.AnswerLemmas.{ok_same, err_not_ok}
use Rattle.object_laws.proofs.LawFieldTables.{all_joined, run_again, FormLaw, TableLaw, map_law}
use Rattle.object_laws.proofs.LawLines.{refused_not_ok, required_law}
use Rattle.object_laws.proofs.LawScalars.{version_law, kind_law, kind_stands, kind_shown}
use Rattle.object_laws.proofs.LawTables.{loose, metadata_law, service_body_law}
use Rattle.object_laws.proofs.LawTables.{data_source_body_law, target_body_law, condition_body_law}
use Rattle.object_laws.proofs.LawTables.{sli_body_law}
use Rattle.object_laws.proofs.LawForms.{map_strong}
use Rattle.object_laws.proofs.LawInline.{Own}
use Rattle.object_laws.proofs.LawObjectives.{policy_body_law, slo_body_law}
use Rattle.object_terms.specs.declared.fault.TheConstants.{DOCUMENT}
use Rattle.object_terms.specs.declared.keys.TheConstants.{API_VERSION, KIND, METADATA, SPEC}

-- what is to hold of each object that stood inline, of every kind
abbrev pub Owns : (P : Object → Type 0) → Type 0
Owns P = (k : Kind) → Own P k (body_form k)

pub policies_law : (P : Object → Type 0) → Owns P → FormLaw P policy_body
policies_law P own =
    policy_body_law P (own kinds.AlertCondition) (own kinds.AlertNotificationTarget)

body_law : (P : Object → Type 0) → Owns P → (k : Kind) → FormLaw P (body k)
unfolding body
body_law P own kinds.DataSource = data_source_body_law P
body_law P own kinds.Service = service_body_law P
body_law P own kinds.Sli = sli_body_law P
body_law P own kinds.Slo =
    slo_body_law P (policies_law P own) (own kinds.AlertPolicy) (own kinds.Sli)
body_law P own kinds.AlertPolicy = policies_law P own
body_law P own kinds.AlertCondition = condition_body_law P
body_law P own kinds.AlertNotificationTarget = target_body_law P

pub document_law : (P : Object → Type 0) → Owns P → TableLaw P [] document
unfolding document
document_law P own = (
  required_law P API_VERSION.now version (loose P version (version_law P)),
  λ v. (
    refl,
    λ k m s. refl,
    (
      required_law P KIND.now kind (loose P kind (kind_law P)),
      λ k. (
        refl,
        λ m s. refl,
        (
          required_law P METADATA.now (map_with metadata) (map_law P metadata (metadata_law P)),
          λ m. (
            refl,
            λ s. refl,
            (required_law P SPEC.now (body k) (body_law P own k), λ s. (refl, refl, tt)),
          ),
        ),
      ),
    ),
  ),
)

-- what an object is to be: its document stands for it alone
abbrev pub IsAgain : Object → Type 0
IsAgain o = objects_of (meant (written o)) ≡ Ok (o ∷ [])

abbrev Any : Object → Type 0
Any o = Unit {0}

document_again : (es : Entries) (y : List Object × Object) → answer_by document [] es ≡ Ok y
    → IsAgain y.1
document_again es y e = ap with_own (run_again Any document [] []
    (document_law Any (λ k tm ts m b nm ns em eb. tt)) es y e no_entries refl refl)

-- OBJECTS THAT STOOD INLINE

-- what each line of a table is to read, so that the whole is read
abbrev ReadsTo : {A : Type 0} → FieldTable A → List Key → Entries → List Object × A → Type 0
ReadsTo (done a) known es y = (closed known es ≡ gives tt) × (y ≡ ([], a))
ReadsTo {A} (next_line {B = B} r part rest) known es y = (p : List Object × B)
    × ((q : List Object × A)
    × ((r.read es ≡ Ok p) × ReadsTo (rest p.1) (known ++ r.keys) es q × (y ≡ (p.0 ++ q.0, q.1))))

reads_run : {A : Type 0} (table : FieldTable A) (known : List Key) (es : Entries)
    (y : List Object × A)
    → ReadsTo table known es y → answer_by table known es ≡ Ok y
reads_run (done a) known es y h = ap (λ c. and_then c (λ _. gives a)) h.0 ∙ ap Ok (sym h.1)
reads_run (next_line r part rest) known es y h =
    let p = h.0 in
    ap (λ x. and_then x (λ b. answer_by (rest b) (known ++ r.keys) es)) h.1.1.0
    ∙ ap (after p.0) (reads_run (rest p.1) (known ++ r.keys) es h.1.0 h.1.1.1)
    ∙ ap Ok (sym h.1.1.2)

-- the document that metadata and a `spec` make
abbrev made : Kind → Tree → Tree → Entries
made k tm ts = entry API_VERSION.now (scalar version_text true) (entry KIND.now
    (scalar (kind_word k) true) (entry METADATA.now tm (entry SPEC.now ts no_entries)))

made_read : (k : Kind) (tm ts : Tree) (m : List Object × Metadata) (b : List Object × Body)
    → is_null tm ≡ false → is_null ts ≡ false
    → (map_with metadata).read METADATA.now tm ≡ Ok m → (body k).read SPEC.now ts ≡ Ok b
    → answer_by document [] (made k tm ts) ≡ Ok (
      [] ++ ([] ++ (m.0 ++ (b.0 ++ []))),
      object_with k m.1 b.1,
    )
unfolding document version_value
made_read k tm ts m b nm ns em eb =
    reads_run document [] (made k tm ts) (
      [] ++ ([] ++ (m.0 ++ (b.0 ++ []))),
      object_with k m.1 b.1,
    ) (
      ([], tt),
      (
        ([] ++ (m.0 ++ (b.0 ++ [])), object_with k m.1 b.1),
        (
          version_there,
          (
            ([], k),
            (
              (m.0 ++ (b.0 ++ []), object_with k m.1 b.1),
              (
                kind_there,
                (
                  m,
                  (
                    (b.0 ++ [], object_with k m.1 b.1),
                    (
                      metadata_there,
                      (b, (([], object_with k m.1 b.1), (spec_there, (refl, refl), refl))),
                      refl,
                    ),
                  ),
                ),
                refl,
              ),
            ),
          ),
          refl,
        ),
      ),
    )
  where
    version_there : (required API_VERSION.now version).read (made k tm ts) ≡ Ok ([], tt)
    version_there = refl

    kind_there : (required KIND.now kind).read (made k tm ts) ≡ Ok ([], k)
    kind_there = ap (λ c. on_some (refused KIND.now rules.Missing)
        (kind.read KIND.now) (cond (not c) (Some (scalar (kind_word k) true)) (field_of KIND.now
        (entry METADATA.now tm (entry SPEC.now ts no_entries))))) (kind_shown k)
        ∙ ap (told KIND.now) (kind_stands k)

    metadata_there : (required METADATA.now (map_with metadata)).read (made k tm ts) ≡ Ok m
    metadata_there = ap (λ c.
        on_some (refused METADATA.now rules.Missing) ((map_with metadata).read METADATA.now)
        (cond (not c) (Some tm) (field_of METADATA.now (entry SPEC.now ts no_entries)))) nm ∙ em

    spec_there : (required SPEC.now (body k)).read (made k tm ts) ≡ Ok b
    spec_there = ap (λ c. on_some (refused SPEC.now rules.Missing) ((body k).read SPEC.now)
        (cond (not c) (Some ts) None)) ns ∙ eb

own_again : Owns IsAgain
unfolding body
own_again k tm ts m b nm ns em eb = document_again (made k tm ts)
    ([] ++ ([] ++ (m.0 ++ (b.0 ++ []))), object_with k m.1 b.1) (made_read k tm ts m b nm ns em eb)

-- THE LAW

read_again : (y : List Object × Object) (t : Tree) → (map_with document).read DOCUMENT.now t ≡ Ok y
    → AllByRecursion IsAgain (y.0 ++ y.1 ∷ [])
read_again y (mapping es) e =
    all_joined IsAgain y.0 (y.1 ∷ []) (map_strong IsAgain document (document_law IsAgain own_again)
    DOCUMENT.now (mapping es) y e).taken (document_again es y e, tt)
read_again y (sequence ts) e = refused_not_ok DOCUMENT.now rules.NotMap y e
read_again y (scalar text plain) e = refused_not_ok DOCUMENT.now rules.NotMap y e

pub each_again : (t : Tree) (os : List Object) → objects_of t ≡ Ok os
    → AllByRecursion (λ o. objects_of (meant (written o)) ≡ Ok (o ∷ [])) os
each_again t os e = by ((map_with document).read DOCUMENT.now t) refl e
  where
    by : (a : Answer Object) → (map_with document).read DOCUMENT.now t ≡ a → with_own a ≡ Ok os
        → AllByRecursion IsAgain os
    by (Ok p) f g =
        subst (AllByRecursion IsAgain) (ok_same (p.0 ++ p.1 ∷ []) os g) (read_again p t f)
    by (Err x) f g = absurd (err_not_ok x os g)
