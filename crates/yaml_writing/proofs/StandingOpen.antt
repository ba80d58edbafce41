-- Open nodes can be written: after one more mark, and once they are closed.
use Rattle.std.proofs.Common.{◌≡◌, ℕ, zero, suc, pred, ◌≤◌, Bool, true, false, cond, List, [], ◌∷◌}
use Rattle.std.proofs.Common.{◌++◌, Option, Some, None, map, drop, get_or, replicate, option_map}
use Rattle.std.proofs.Common.{bytes_eq, refl, sym, ap, ◌∙◌, subst, arith}
use Rattle.std.specs.Prelude.{⊤}
use Rattle.std.specs.List.{AllByRecursion, list_any}
use Rattle.std.proofs.lemmas.Bool.{or_parts, or_from, true≢false}
use Rattle.std.proofs.lemmas.List.Sums.{prefix_len_passes}
use Rattle.std.proofs.lemmas.Str.{IsUtf8-nil}
use lib.Pointwise.{bytes_decides}
use Rattle.yaml_terms.specs.Tree.{Tree, trees}
use Rattle.yaml_terms.specs.Mark.{Mark, start, dash, key, value, header, raw, Child}
use Rattle.yaml_terms.specs.Block.{is_space, is_blank, indentation, joint, Block, content_of}
use Rattle.yaml_terms.specs.Block.{indent_of, filled_block, with_line, ended_text}
use Rattle.yaml_terms.specs.Profile.{has_room, is_next, with_child, or_no_text, is_key}
use Rattle.yaml_terms.specs.Profile.{is_repeated, entries, collection, is_shallow}
use Rattle.yaml_terms.specs.OpenNodes.{Open, nothing, inline, block, within, node_so_far}
use Rattle.yaml_terms.specs.OpenNodes.{documents_so_far}
use Rattle.yaml_terms.specs.OpenNodes.{begun_node, with_raw, next_piece, next_open}
use Rattle.yaml_terms.specs.Text.{scalar_with}
use Rattle.yaml_terms.specs.Spelling.{spelled, fields_spelled, items_spelled}
use Rattle.yaml_terms.specs.SpellingFits.{SpellingFits, FitFields, FitItems, has_field}
use Rattle.yaml_terms.specs.declared.Scalar.{Scalar}
use Rattle.yaml_terms.specs.declared.Style.{Style}
use Rattle.yaml_terms.specs.declared.Chomping.{Chomping}
use Rattle.yaml_terms.specs.declared.Chomping.TheVariants.{Clip, Strip, Keep}
use Rattle.yaml_terms.proofs.Utf8Lemmas.{pick, one_ascii, ascii_of}
use Rattle.yaml_writing.proofs.StandingBytes.{IsPure, IsClean}
use Rattle.yaml_writing.proofs.StandingBytes.{clean-append, clean-replicate, clean-from_pure}
use Rattle.yaml_writing.proofs.StandingBytes.{pure-drop_spaces}
use Rattle.yaml_writing.proofs.StandingLine.{IsGood}

-- CHILDREN

abbrev child : Mark → Tree → Child
child h x = record { mark = h; tree = x }

-- finished children, of a map or of a list
abbrev IsGoodDone : ℕ → List Child → Type 0
IsGoodDone d done = FitFields d (fields_spelled (entries done))
    × FitItems d (items_spelled (trees (map (λ c. c.tree) done)))

other_key : (j k : List ℕ) → bytes_eq j k ≡ false → bytes_eq k j ≡ false
other_key j k e = by (bytes_eq k j) refl
  where
    by : (b : Bool) → bytes_eq k j ≡ b → b ≡ false
    by true f =
        absurd (true≢false (sym ((bytes_decides j k).1 (sym ((bytes_decides k j).0 f))) ∙ e))
    by false f = refl

first_differs : (h : Mark) (n : ℕ) (k : List ℕ) (x : Tree) (cs : List Child)
    → is_repeated h (child (key n k) x ∷ cs) ≡ false → is_key k h ≡ false
first_differs start n k x cs e = refl
first_differs (dash m) n k x cs e = refl
first_differs (key m j) n k x cs e =
    other_key j k (or_parts (bytes_eq j k) (list_any (λ c. is_key j c.mark) cs) e).0
first_differs (value m y) n k x cs e = refl
first_differs (header m s) n k x cs e = refl
first_differs (raw l) n k x cs e = refl

rest_differs : (h : Mark) (c : Child) (cs : List Child) → is_repeated h (c ∷ cs) ≡ false
    → is_repeated h cs ≡ false
rest_differs start c cs e = refl
rest_differs (dash m) c cs e = refl
rest_differs (key m j) c cs e =
    (or_parts (is_key j c.mark) (list_any (λ c. is_key j c.mark) cs) e).1
rest_differs (value m y) c cs e = refl
rest_differs (header m s) c cs e = refl
rest_differs (raw l) c cs e = refl

-- a map that gets an entry with another key
no_field : (k : List ℕ) (done : List Child) (h : Mark) (x : Tree)
    → has_field k (fields_spelled (entries done)) ≡ false → is_key k h ≡ false
    → has_field k (fields_spelled (entries (done ++ (child h x ∷ [])))) ≡ false
no_field k [] start x e f = refl
no_field k [] (dash n) x e f = refl
no_field k [] (key n j) x e f = or_from (bytes_eq k j) false f refl
no_field k [] (value n y) x e f = refl
no_field k [] (header n s) x e f = refl
no_field k [] (raw l) x e f = refl
no_field k (c ∷ cs) h x e f = by c.mark c.tree e (λ g. no_field k cs h x g f)
  where
    by : (m : Mark) (t : Tree) → has_field k (fields_spelled (entries (child m t ∷ cs))) ≡ false
        → (has_field k (fields_spelled (entries cs)) ≡ false
        → has_field k (fields_spelled (entries (cs ++ (child h x ∷ [])))) ≡ false)
        → has_field k (fields_spelled (entries (child m t ∷ (cs ++ (child h x ∷ []))))) ≡ false
    by start t e ih = ih e
    by (dash n) t e ih = ih e
    by (key n j) t e ih =
        let p = or_parts (bytes_eq k j) (has_field k (fields_spelled (entries cs))) e in
        or_from (bytes_eq k j) _ p.0 (ih p.1)
    by (value n y) t e ih = ih e
    by (header n s) t e ih = ih e
    by (raw l) t e ih = ih e

fields_more : (d : ℕ) (done : List Child) (h : Mark) (x : Tree)
    → FitFields d (fields_spelled (entries done)) → IsGood h → is_repeated h done ≡ false
    → SpellingFits d (spelled x) → FitFields d (fields_spelled (entries (done ++ (child h x ∷ []))))
fields_more d [] start x f g e k = tt
fields_more d [] (dash n) x f g e k = tt
fields_more d [] (key n j) x f g e k = (g, refl, k, tt)
fields_more d [] (value n y) x f g e k = tt
fields_more d [] (header n s) x f g e k = tt
fields_more d [] (raw l) x f g e k = tt
fields_more d (c ∷ cs) h x f g e k =
    by c.mark c.tree f e (λ v. fields_more d cs h x v g (rest_differs h c cs e) k)
  where
    by : (m : Mark) (t : Tree) → FitFields d (fields_spelled (entries (child m t ∷ cs)))
        → is_repeated h (child m t ∷ cs) ≡ false
        → (FitFields d (fields_spelled (entries cs))
        → FitFields d (fields_spelled (entries (cs ++ (child h x ∷ [])))))
        → FitFields d (fields_spelled (entries (child m t ∷ (cs ++ (child h x ∷ [])))))
    by start t f e ih = ih f
    by (dash n) t f e ih = ih f
    by (key n j) t f e ih = (f.0, no_field j cs h x f.1 (first_differs h n j t cs e), f.2, ih f.3)
    by (value n y) t f e ih = ih f
    by (header n s) t f e ih = ih f
    by (raw l) t f e ih = ih f

items_more : (d : ℕ) (done : List Child) (h : Mark) (x : Tree)
    → FitItems d (items_spelled (trees (map (λ c. c.tree) done))) → SpellingFits d (spelled x)
    → FitItems d (items_spelled (trees (map (λ c. c.tree) (done ++ (child h x ∷ [])))))
items_more d [] h x f k = (k, tt)
items_more d (c ∷ cs) h x f k = (f.0, items_more d cs h x f.1 k)

-- a node that stands somewhere, if one does
abbrev OnTree : ℕ → Option Tree → Type 0
OnTree d None = ⊤
OnTree d (Some x) = SpellingFits d (spelled x)

or_no_text_fits : (d : ℕ) (o : Option Tree) → OnTree d o → SpellingFits d (spelled (or_no_text o))
or_no_text_fits d None h = (IsUtf8-nil, refl)
or_no_text_fits d (Some x) h = h

with_child_good : (d : ℕ) (done : List Child) (h : Mark) (o : Option Tree) → IsGoodDone d done
    → IsGood h → is_repeated h done ≡ false → OnTree d o → IsGoodDone d (with_child done h o)
with_child_good d done h o f g e k = by h o g e k
  where
    more : (h : Mark) (o : Option Tree) → IsGood h → is_repeated h done ≡ false → OnTree d o
        → IsGoodDone d (done ++ (child h (or_no_text o) ∷ []))
    more h o g e k = let t = or_no_text_fits d o k in
        (fields_more d done h (or_no_text o) f.0 g e t, items_more d done h (or_no_text o) f.1 t)

    by : (h : Mark) (o : Option Tree) → IsGood h → is_repeated h done ≡ false → OnTree d o
        → IsGoodDone d (with_child done h o)
    by start None g e k = f
    by start (Some x) g e k = more start (Some x) g e k
    by (dash n) o g e k = more (dash n) o g e k
    by (key n j) o g e k = more (key n j) o g e k
    by (value n y) o g e k = more (value n y) o g e k
    by (header n s) o g e k = more (header n s) o g e k
    by (raw l) o g e k = absurd g

collection_good : (d : ℕ) (done : List Child) → IsGoodDone d done
    → SpellingFits (suc d) (spelled (collection done))
collection_good d [] h = tt
collection_good d (c ∷ cs) h = by c.mark c.tree h
  where
    by : (m : Mark) (t : Tree) → IsGoodDone d (child m t ∷ cs)
        → SpellingFits (suc d) (spelled (collection (child m t ∷ cs)))
    by start t h = h.1
    by (dash n) t h = h.1
    by (key n j) t h = h.0
    by (value n y) t h = h.1
    by (header n s) t h = h.1
    by (raw l) t h = h.1

-- BLOCK SCALARS

drop_spaces : (i : ℕ) (l : List ℕ) → i ≤ indentation l → IsPure l → IsPure (drop i l)
drop_spaces i l few p = pure-drop_spaces i l (λ k h.
    ascii_of (get_or l k 0) 32 (prefix_len_passes is_space l k 0 (omega arith)) (omega arith)) p

joint_clean : (folded : Bool) (n : ℕ) → IsClean (joint folded n)
joint_clean false n = clean-replicate (suc n)
joint_clean true zero = (one_ascii 32 (omega arith), refl)
joint_clean true (suc n) = clean-replicate (suc n)

-- the content's indentation, once it is known, is no more than the line's
abbrev pub Deep : Option ℕ → List ℕ → Type 0
Deep None l = ⊤
Deep (Some i) l = i ≤ indentation l

content_clean : (s : Style) (o : Option ℕ) (t : List ℕ) (n : ℕ) (l : List ℕ) → Deep o l → IsPure l
    → IsClean (content_of (record { style = s; indent = o; text = t; blanks = n }) l)
content_clean s None t n l h p = clean-append (replicate n 10) (drop (indentation l) l)
    (clean-replicate n) (clean-from_pure _ (drop_spaces (indentation l) l (omega arith) p))
content_clean s (Some i) t n l h p = clean-append (joint s.folded n) (drop i l)
    (joint_clean s.folded n) (clean-from_pure _ (drop_spaces i l h p))

with_line_clean : (b : Block) (l : List ℕ) → (is_blank l ≡ false → Deep b.indent l) → IsClean b.text
    → IsPure l → IsClean (with_line b l).text
with_line_clean b l h c p = pick (λ (a : Block). IsClean a.text) (is_blank l)
    (record b { blanks = suc b.blanks }) (filled_block b l) (λ _. c) (λ e. clean-append b.text
    (content_of b l) c (content_clean b.style b.indent b.text b.blanks l (h e) p))

ended_clean : (f : Bool) (c : Chomping) (o : Option ℕ) (t : List ℕ) (n : ℕ) → IsClean t
    → IsClean (ended_text (record {
      style = record { folded = f; chomping = c };
      indent = o;
      text = t;
      blanks = n;
    }))
ended_clean f Clip (Some i) t n h = clean-append t (10 ∷ []) h (clean-replicate 1)
ended_clean f Strip (Some i) t n h = clean-append t [] h (clean-replicate 0)
ended_clean f Keep (Some i) t n h =
    clean-append t (replicate (suc n) 10) h (clean-replicate (suc n))
ended_clean f Clip None t n h = clean-replicate 0
ended_clean f Strip None t n h = clean-replicate 0
ended_clean f Keep None t n h = clean-replicate n

-- OPEN NODES

-- open nodes that can be written, where maps and lists may nest so deep
abbrev pub IsGoodOpen : ℕ → Open → Type 0
IsGoodOpen d nothing = ⊤
IsGoodOpen d (inline x) = SpellingFits d (spelled x)
IsGoodOpen d (block b) = IsClean b.text
IsGoodOpen zero (within h done i) = ⊥
IsGoodOpen (suc d) (within h done i) = IsGood h × (is_repeated h done ≡ false) × IsGoodDone d done
    × IsGoodOpen d i

abbrev pub OnOpen : ℕ → Option Open → Type 0
OnOpen d None = ⊤
OnOpen d (Some o) = IsGoodOpen d o

closed_good : (d : ℕ) (o : Open) → IsGoodOpen d o → OnTree d (node_so_far o)
closed_good d nothing h = tt
closed_good d (inline x) h = h
closed_good d (block b) h = ended_clean b.style.folded b.style.chomping b.indent b.text b.blanks h
closed_good zero (within g done i) h = absurd h
closed_good (suc d) (within g done i) h = collection_good d (with_child done g (node_so_far i))
    (with_child_good d done g (node_so_far i) h.2 h.0 h.1 (closed_good d i h.3))

begun_good : (d : ℕ) (m : Mark) → IsGood m → OnOpen d (begun_node d m)
begun_good zero start g = tt
begun_good zero (dash n) g = tt
begun_good zero (key n k) g = tt
begun_good zero (value n x) g =
    pick (OnOpen zero) (is_shallow zero x) (Some (inline x)) None (λ e. g zero e) (λ _. tt)
begun_good zero (header n s) g = (IsUtf8-nil, refl)
begun_good zero (raw l) g = tt
begun_good (suc d) start g = tt
begun_good (suc d) (dash n) g = (tt, refl, (tt, tt), tt)
begun_good (suc d) (key n k) g = (g, refl, (tt, tt), tt)
begun_good (suc d) (value n x) g =
    pick (OnOpen (suc d)) (is_shallow (suc d) x) (Some (inline x)) None (λ e. g (suc d) e) (λ _. tt)
begun_good (suc d) (header n s) g = (IsUtf8-nil, refl)
begun_good (suc d) (raw l) g = tt

under : (d : ℕ) (h : Mark) (done : List Child) (o : Option Open)
    → IsGood h → is_repeated h done ≡ false → IsGoodDone d done → OnOpen d o
    → OnOpen (suc d) (option_map (within h done) o)
under d h done None g e k v = tt
under d h done (Some i) g e k v = (g, e, k, v)

next_good : (d : ℕ) (m : Mark) (done : List Child) → IsGood m → IsGoodDone d done
    → OnOpen (suc d) (next_piece m done)
next_good d m done g k = pick (OnOpen (suc d)) (is_repeated m done) None
    (Some (within m done nothing)) (λ _. tt) (λ e. (g, e, k, tt))

-- one more mark of a line by itself
pub added_good : (d : ℕ) (h m : Mark) (o : Open) → IsGoodOpen d o → IsGood m
    → OnOpen d (next_open d h m o)
added_good d h m nothing k g =
    pick (OnOpen d) (has_room h m) (begun_node d m) None (λ _. begun_good d m g) (λ _. tt)
added_good d h m (inline x) k g = tt
added_good d h m (block b) k g = by m g
  where
    by : (m : Mark) → IsGood m → OnOpen d (with_raw b m)
    by start g = tt
    by (dash n) g = tt
    by (key n j) g = tt
    by (value n x) g = tt
    by (header n s) g = tt
    by (raw l) g = absurd g
added_good zero h m (within f done i) k g = absurd k
added_good (suc d) h m (within f done i) k g = pick (OnOpen (suc d)) (is_next f m)
    (next_piece m (with_child done f (node_so_far i)))
    (option_map (within f done) (next_open d f m i))
    (λ _. next_good d m (with_child done f (node_so_far i)) g
    (with_child_good d done f (node_so_far i) k.2 k.0 k.1 (closed_good d i k.3)))
    (λ _. under d f done (next_open d f m i) k.0 k.1 k.2 (added_good d f m i k.3 g))

-- the nodes of a stream that ends there
pub finished_good : (d : ℕ) (o : Open) → IsGoodOpen (suc d) o
    → AllByRecursion (λ x. SpellingFits d (spelled x)) (documents_so_far o)
finished_good d nothing h = tt
finished_good d (inline x) h = tt
finished_good d (block b) h = tt
finished_good d (within g done i) h = all_fit
    (map (λ c. c.tree) (with_child done g (node_so_far i)))
    (with_child_good d done g (node_so_far i) h.2 h.0 h.1 (closed_good d i h.3)).1
  where
    all_fit : (xs : List Tree) → FitItems d (items_spelled (trees xs))
        → AllByRecursion (λ x. SpellingFits d (spelled x)) xs
    all_fit [] f = tt
    all_fit (x ∷ xs) f = (f.0, all_fit xs f.1)

-- THE OPEN BLOCK SCALAR

-- the innermost open node, where it is a block scalar, has this indentation of its content
abbrev pub Indents : Option ℕ → Open → Type 0
Indents j nothing = ⊤
Indents j (inline x) = ⊤
Indents j (block b) = b.indent ≡ j
Indents j (within h done i) = Indents j i

abbrev pub OnIndents : Option ℕ → Option Open → Type 0
OnIndents j None = ⊤
OnIndents j (Some o) = Indents j o

next_raw : (g : Mark) (l : List ℕ) → is_next g (raw l) ≡ false
next_raw start l = refl
next_raw (dash n) l = refl
next_raw (key n k) l = refl
next_raw (value n x) l = refl
next_raw (header n s) l = refl
next_raw (raw k) l = refl

next_header : (g : Mark) (n : ℕ) (s : Style) → is_next g (header n s) ≡ false
next_header start n s = refl
next_header (dash m) n s = refl
next_header (key m k) n s = refl
next_header (value m x) n s = refl
next_header (header m t) n s = refl
next_header (raw k) n s = refl

no_raw : (d : ℕ) (l : List ℕ) → begun_node d (raw l) ≡ None
no_raw zero l = refl
no_raw (suc d) l = refl

under_indents : (j : Option ℕ) (h : Mark) (done : List Child) (o : Option Open) → OnIndents j o
    → OnIndents j (option_map (within h done) o)
under_indents j h done None v = tt
under_indents j h done (Some i) v = v

-- one more line of the open block scalar
pub raw_good : (d : ℕ) (h : Mark) (l : List ℕ) (j : Option ℕ) (o : Open) → IsGoodOpen d o
    → Indents j o → IsPure l → (is_blank l ≡ false → Deep j l) → OnOpen d (next_open d h (raw l) o)
raw_good d h l j nothing k i p deep =
    pick (OnOpen d) (has_room h (raw l)) (begun_node d (raw l)) None
    (λ _. subst (OnOpen d) (sym (no_raw d l)) tt) (λ _. tt)
raw_good d h l j (inline x) k i p deep = tt
raw_good d h l j (block b) k i p deep =
    with_line_clean b l (λ e. subst (λ o. Deep o l) (sym i) (deep e)) k p
raw_good zero h l j (within f done o) k i p deep = absurd k
raw_good (suc d) h l j (within f done o) k i p deep = rw (next_raw f l)
    (under d f done (next_open d f (raw l) o) k.0 k.1 k.2 (raw_good d f l j o k.3 i p deep))

pub raw_indents : (d : ℕ) (h : Mark) (l : List ℕ) (s : Scalar) (o : Open) → Indents s.indent o
    → OnIndents (scalar_with l s).indent (next_open d h (raw l) o)
raw_indents d h l s nothing i =
    pick (OnIndents (scalar_with l s).indent) (has_room h (raw l)) (begun_node d (raw l)) None
    (λ _. subst (OnIndents (scalar_with l s).indent) (sym (no_raw d l)) tt) (λ _. tt)
raw_indents d h l s (inline x) i = tt
raw_indents d h l s (block b) i = by (is_blank l)
  where
    by : (t : Bool) → (cond t (record b { blanks = suc b.blanks }) (filled_block b l)).indent
        ≡ (cond t s (record {
          parent = s.parent;
          indent = Some (indent_of s.indent l);
          folded = s.folded;
        })).indent
    by true = i
    by false = ap Some (ap (λ o. indent_of o l) i)
raw_indents d h l s (within f done o) i = rw (next_raw f l) (under_indents (scalar_with l s).indent
    f done (next_open (pred d) f (raw l) o) (raw_indents (pred d) f l s o i))

-- a header opens a block scalar with no line yet
pub header_indents : (d : ℕ) (h : Mark) (n : ℕ) (s : Style) (o : Open)
    → OnIndents None (next_open d h (header n s) o)
header_indents d h n s nothing = pick (OnIndents None) (has_room h (header n s))
    (begun_node d (header n s)) None (λ _. opens d) (λ _. tt)
  where
    opens : (d : ℕ) → OnIndents None (begun_node d (header n s))
    opens zero = refl
    opens (suc d) = refl
header_indents d h n s (inline x) = tt
header_indents d h n s (block b) = tt
header_indents d h n s (within f done o) = rw (next_header f n s)
    (under_indents None f done (next_open (pred d) f (header n s) o)
    (header_indents (pred d) f n s o))
