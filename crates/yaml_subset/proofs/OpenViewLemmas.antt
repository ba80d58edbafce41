-- The open nodes as frames: what one more mark does, and what closing does.
use Rattle.std.proofs.Common.{◌≡◌, ℕ, zero, suc, pred, ◌+◌, ◌-◌, ◌<◌, ◌≤◌, Bool, true, false, ◌||◌}
use Rattle.std.proofs.Common.{List, [], ◌∷◌, ◌++◌, Option, Some, None, cond, length, take, drop}
use Rattle.std.proofs.Common.{get_or, map, option_map, refl, sym, ap, ◌∙◌, append_assoc, add-one}
use Rattle.std.proofs.Common.{sub-one, subst, arith, ◌==◌}
use Rattle.std.proofs.lemmas.Bool.{eqb-true, false≢true}
use Rattle.std.specs.Global.{Vec}
use Rattle.std.proofs.lemmas.Bool.Decides.{nat_tests}
use Rattle.std.specs.Prelude.{nat_lt, is_none}
use Rattle.yaml_terms.specs.declared.ProfileFault.TheVariants.{Indent, Colon, DuplicateKey, TooDeep}
use Rattle.std.proofs.Math.Seq.{drop-cons}
use Rattle.std.proofs.lemmas.List.{drop_all, drop-append-le, take-append-le, take-take, take_all}
use Rattle.std.proofs.lemmas.List.{take-append-drop}
use Rattle.std.proofs.lemmas.List.Folds.{list_any-append}
use Rattle.yaml_terms.specs.Tree.{Tree, mapping, sequence, scalar}
use Rattle.yaml_terms.specs.Mark.{Mark, start, dash, key, value, header, raw, Child}
use Rattle.yaml_terms.specs.Profile.{max_depth, is_next, has_room, with_child, is_repeated, is_key}
use Rattle.yaml_terms.specs.Profile.{is_shallow, collection}
use Rattle.yaml_terms.specs.Block.{Block, with_line}
use Rattle.yaml_terms.specs.OpenNodes.{Open, nothing, inline, block, within, with_raw, node_so_far}
use Rattle.yaml_terms.specs.OpenNodes.{begun_node, next_piece, next_open, open_after}
use Rattle.yaml_terms.specs.Fault.{repeats, begins, column, same_column, is_at_open, fault_of_mark}
use Rattle.yaml_subset.specs.OpenView.{head_of, done_of, open_of, next_place, last_head, last_view}
use Rattle.yaml_subset.specs.OpenView.{stream_of, child, entry_child, any_at, is_nothing}
use Rattle.yaml_lines.specs.BlockView.{block_view}
use Rattle.yaml_subset.specs.OpenView.{BeginsAs, GoesOn}
use Rattle.std.proofs.Common.{Result, Ok, Err, length-append}
use Rattle.std.proofs.lemmas.List.{length-take-le}
use Rattle.std.specs.Result.{IfOk, IfErr}
use Rattle.yaml_lines.specs.LineView.{mark_view}
use Rattle.yaml_subset.specs.OpenView.{nodes_open}
use Rattle.yaml_subset.specs.LineErrorView.{Refuses}
use Rattle.yaml_lines.specs.declared.Block.{Block as Lines}
use Rattle.yaml_lines.specs.declared.Mark.{Mark as Rust}
use Rattle.yaml_lines.specs.declared.Mark.TheVariants as rust
use Rattle.yaml_terms.specs.declared.Node.{Node}
use Rattle.yaml_terms.specs.declared.ScalarText.{ScalarText}
use Rattle.yaml_subset.specs.declared.entries.OpenEntries.{OpenEntries}
use Rattle.yaml_terms.specs.declared.ProfileFault.{ProfileFault}
use Rattle.yaml_subset.specs.declared.open.OpenNodes.{OpenNodes}
use Rattle.yaml_subset.specs.declared.open.LineError.{LineError}
use Rattle.yaml_subset.specs.declared.open.LineError.TheVariants as stops
use Rattle.yaml_subset.specs.declared.frame.Frame.{Frame}
use Rattle.yaml_subset.specs.declared.frame.Frame.TheVariants as frames
use Rattle.yaml_subset.specs.declared.frame.Last.{Last}
use Rattle.yaml_subset.specs.declared.frame.Last.TheVariants as lasts

-- the value that frames are, closed, with this one within the innermost
abbrev pub closed_with : List Frame → Option Tree → Option Tree
closed_with [] v = v
closed_with (f ∷ fs) v = Some (collection (with_child (done_of f) (head_of f) (closed_with fs v)))

-- one frame more, where the mark isn't its next
pub next_place_more : (m : Mark) (fs : List Frame) (at : ℕ) (d : Frame) → at < length fs
    → next_place m (drop at fs)
    ≡ cond (is_next (head_of (get_or fs at d)) m) 0 (suc (next_place m (drop (at + 1) fs)))
next_place_more m fs at d h = let e : drop at fs ≡ get_or fs at d ∷ drop (at + 1) fs =
    rw (add-one, drop-cons fs at d) refl in ap (next_place m) e

pub any_at_more : (c : Option ℕ) (fs : List Frame) (at : ℕ) (d : Frame) → at < length fs
    → any_at c (drop at fs) ≡ (same_column (column (head_of (get_or fs at d))) c
    || any_at c (drop (at + 1) fs))
any_at_more c fs at d h = let e : drop at fs ≡ get_or fs at d ∷ drop (at + 1) fs =
    rw (add-one, drop-cons fs at d) refl in ap (any_at c) e

pub closed_open : (fs : List Frame) (o : Open)
    → node_so_far (open_of fs o) ≡ closed_with fs (node_so_far o)
closed_open [] o = refl
closed_open (f ∷ fs) o = ap (λ (v : Option Tree).
    Some (collection (with_child (done_of f) (head_of f) v))) (closed_open fs o)

pub closed_push : (fs : List Frame) (f : Frame) (v : Option Tree) → closed_with (fs ++ (f ∷ [])) v
    ≡ closed_with fs (Some (collection (with_child (done_of f) (head_of f) v)))
closed_push [] f v = refl
closed_push (g ∷ fs) f v = ap (λ (w : Option Tree).
    Some (collection (with_child (done_of g) (head_of g) w))) (closed_push fs f v)

option_map-same : {A : Type 0} (f g : A → A) (o : Option A) → ((x : A) → f x ≡ g x)
    → option_map f o ≡ option_map g o
option_map-same f g None h = refl
option_map-same f g (Some x) h = ap Some (h x)

-- the mark is the next one of the frame behind these
not_here : (b : Bool) (n k : ℕ) → cond b 0 (suc n) ≡ suc k → (b ≡ false) × (n ≡ k)
not_here true n k e = absurd (omega arith)
not_here false n k e = (refl, omega arith)

here : (b : Bool) (n : ℕ) → cond b 0 (suc n) ≡ 0 → b ≡ true
here true n e = refl
here false n e = absurd (omega arith)

wrap_twice : (g : Frame) (fs : List Frame) (o : Option Open) → option_map
    (within (head_of g) (done_of g)) (option_map (open_of fs) o) ≡ option_map (open_of (g ∷ fs)) o
wrap_twice g fs None = refl
wrap_twice g fs (Some x) = refl

pub added_next : (before : List Frame) (f : Frame) (after : List Frame) (o : Open) (m : Mark)
    → next_place m (before ++ (f ∷ after)) ≡ length before
    → (d : ℕ) (h : Mark) → next_open d h m (open_of (before ++ (f ∷ after)) o)
    ≡ option_map (open_of before)
    (next_piece m (with_child (done_of f) (head_of f) (node_so_far (open_of after o))))
added_next [] f after o m e d h = rw (here (is_next (head_of f) m) _ e)
    (as_is (next_piece m (with_child (done_of f) (head_of f) (node_so_far (open_of after o)))))
  where
    as_is : (p : Option Open) → p ≡ option_map (open_of []) p
    as_is None = refl
    as_is (Some x) = refl
added_next (g ∷ before) f after o m e d h =
    let n =
    not_here (is_next (head_of g) m) (next_place m (before ++ (f ∷ after))) (length before) e in
    rw (n.0, added_next before f after o m n.1 (pred d) (head_of g)) (wrap_twice g before _)

pub next_found : (before : List Frame) (f : Frame) (after : List Frame) (m : Mark)
    → next_place m (before ++ (f ∷ after)) ≡ length before → is_next (head_of f) m ≡ true
next_found [] f after m e = here (is_next (head_of f) m) _ e
next_found (g ∷ before) f after m e = next_found before f after m
    (not_here (is_next (head_of g) m) (next_place m (before ++ (f ∷ after))) (length before) e).1

pub repeats_next : (before : List Frame) (f : Frame) (after : List Frame) (o : Open) (m : Mark)
    → next_place m (before ++ (f ∷ after)) ≡ length before
    → repeats m (open_of (before ++ (f ∷ after)) o)
    ≡ is_repeated m (with_child (done_of f) (head_of f) (node_so_far (open_of after o)))
repeats_next [] f after o m e = rw (here (is_next (head_of f) m) _ e) refl
repeats_next (g ∷ before) f after o m e =
    let n =
    not_here (is_next (head_of g) m) (next_place m (before ++ (f ∷ after))) (length before) e in
    rw n.0 (repeats_next before f after o m n.1)

-- the mark is the next one of no frame
pub added_none : (fs : List Frame) (o : Open) (m : Mark) → next_place m fs ≡ length fs
    → (d : ℕ) (h : Mark) → next_open d h m (open_of fs o)
    ≡ option_map (open_of fs) (next_open (d - length fs) (last_head h fs) m o)
added_none [] o m e d h = let same : d - 0 ≡ d = omega arith in rw same (as_is (next_open d h m o))
  where
    as_is : (p : Option Open) → p ≡ option_map (open_of []) p
    as_is None = refl
    as_is (Some x) = refl
added_none (g ∷ fs) o m e d h =
    let n = not_here (is_next (head_of g) m) (next_place m fs) (length fs) e in
    let less : d - suc (length fs) ≡ pred d - length fs = rw (← sub-one) (omega arith) in
    rw (n.0, added_none fs o m n.1 (pred d) (head_of g), less) (wrap_twice g fs _)

pub repeats_none : (fs : List Frame) (l : Last) (m : Mark) → next_place m fs ≡ length fs
    → repeats m (open_of fs (last_view l)) ≡ false
repeats_none [] lasts.Nothing m e = refl
repeats_none [] (lasts.Inline x) m e = refl
repeats_none [] (lasts.Block b) m e = refl
repeats_none (g ∷ fs) l m e =
    let n = not_here (is_next (head_of g) m) (next_place m fs) (length fs) e in
    rw n.0 (repeats_none fs l m n.1)

pub begins_last : (h : Mark) (done : List Child) (fs : List Frame) (l : Last) (m : Mark)
    → begins m (within h done (open_of fs (last_view l)))
    ≡ cond (is_nothing l) (has_room (last_head h fs) m) false
begins_last h done [] lasts.Nothing m = refl
begins_last h done [] (lasts.Inline x) m = refl
begins_last h done [] (lasts.Block b) m = refl
begins_last h done (f ∷ fs) l m = begins_last (head_of f) (done_of f) fs l m

pub at_open_any : (fs : List Frame) (l : Last) (m : Mark)
    → is_at_open m (open_of fs (last_view l)) ≡ any_at (column m) fs
at_open_any [] lasts.Nothing m = refl
at_open_any [] (lasts.Inline x) m = refl
at_open_any [] (lasts.Block b) m = refl
at_open_any (f ∷ fs) l m =
    ap (λ (b : Bool). same_column (column (head_of f)) (column m) || b) (at_open_any fs l m)

pub close_start : (fs : List Frame) (o : Open) (v : Option Tree) → v ≡ node_so_far o
    → closed_with fs v ≡ node_so_far (open_of fs o)
close_start fs o v e = ap (closed_with fs) e ∙ sym (closed_open fs o)

pub close_more : (before after : List Frame) (f : Frame) (v w : Option Tree) (keep : ℕ)
    → before ≡ after ++ (f ∷ []) → keep ≤ length after
    → w ≡ Some (collection (with_child (done_of f) (head_of f) v))
    → closed_with (drop keep after) w ≡ closed_with (drop keep before) v
close_more before after f v w keep e few closes =
    let split : drop keep before ≡ drop keep after ++ (f ∷ []) = ap (drop keep) e
    ∙ drop-append-le keep after (f ∷ []) few in
    ap (closed_with (drop keep after)) closes ∙ sym (closed_push (drop keep after) f v)
    ∙ ap (λ (fs : List Frame). closed_with fs v) (sym split)

pub take_fewer : (all before after : List Frame) (f : Frame) (n : ℕ) → before ≡ take n all
    → before ≡ after ++ (f ∷ []) → length after + 1 ≡ n → after ≡ take (length after) all
take_fewer all before after f n e split one =
    let fewer : take (length after) before ≡ after = ap (take (length after)) split
    ∙ take-append-le (length after) after (f ∷ []) (omega arith)
    ∙ take_all (length after) after (omega arith) in
    let few : length after ≤ n = omega arith in
    sym fewer ∙ ap (take (length after)) e ∙ take-take (length after) n all few

-- whether a key is repeated hangs on the marks alone
pub repeated_any : (m : Mark) (f : Frame) (v : Option Tree) → is_repeated m
    (with_child (done_of f) (head_of f) v) ≡ is_repeated m (with_child (done_of f) (head_of f) None)
repeated_any start f v = refl
repeated_any (dash n) f v = refl
repeated_any (value n x) f v = refl
repeated_any (header n s) f v = refl
repeated_any (raw l) f v = refl
repeated_any (key n k) (frames.Map j e) v =
    list_any-append (λ (c : Child). is_key k c.mark) (map (entry_child j) e.0) _
    ∙ sym (list_any-append (λ (c : Child). is_key k c.mark) (map (entry_child j) e.0) _)
repeated_any (key n k) (frames.List j xs) v =
    list_any-append (λ (c : Child). is_key k c.mark) (map (child (dash j)) xs.items) _
    ∙ sym (list_any-append (λ (c : Child). is_key k c.mark) (map (child (dash j)) xs.items) _)

-- the frames before, the one that goes on, and those behind it
pub split_at : (all before : List Frame) (f : Frame) (at : ℕ)
    → take (at + 1) all ≡ before ++ (f ∷ []) → all ≡ before ++ (f ∷ drop (at + 1) all)
split_at all before f at e = sym (take-append-drop (at + 1) all)
    ∙ ap (λ (fs : List Frame). fs ++ drop (at + 1) all) e
    ∙ append_assoc before (f ∷ []) (drop (at + 1) all)

module _ (docs : List Child) (all before : List Frame) (f : Frame) (at : ℕ) (o : Open) (m : Mark)
    (v : Option Tree)
    (is_all : take (at + 1) all ≡ before ++ (f ∷ [])) (place : next_place m all ≡ at)
    (long : length before ≡ at) (no_start : is_next start m ≡ false)
    (value : v ≡ node_so_far (open_of (drop (at + 1) all) o)) where
  whole : all ≡ before ++ (f ∷ drop (at + 1) all)
  whole = split_at all before f at is_all

  place_there : next_place m (before ++ (f ∷ drop (at + 1) all)) ≡ length before
  place_there = ap (next_place m) (sym whole) ∙ place ∙ sym long

  stream_there : next_open (suc max_depth) start m (within start docs (open_of all o))
      ≡ option_map (within start docs)
      (option_map (open_of before) (next_piece m (with_child (done_of f) (head_of f) v)))
  stream_there = rw no_start (ap (option_map (within start docs))
      (ap (λ (fs : List Frame). next_open max_depth start m (open_of fs o)) whole
      ∙ added_next before f (drop (at + 1) all) o m place_there max_depth start
      ∙ ap (λ (w : Option Tree). option_map (open_of before)
      (next_piece m (with_child (done_of f) (head_of f) w))) (sym value)))

  repeats_there : repeats m (within start docs (open_of all o))
      ≡ is_repeated m (with_child (done_of f) (head_of f) v)
  repeats_there = rw no_start (ap (λ (fs : List Frame). repeats m (open_of fs o)) whole
      ∙ repeats_next before f (drop (at + 1) all) o m place_there
      ∙ ap (λ (w : Option Tree). is_repeated m (with_child (done_of f) (head_of f) w)) (sym value))

  pub is_there : is_next (head_of f) m ≡ true
  is_there = next_found before f (drop (at + 1) all) m place_there

  pub next_taken : (g : Frame) → is_repeated m (with_child (done_of f) (head_of f) None) ≡ false
      → head_of g ≡ m → done_of g ≡ with_child (done_of f) (head_of f) v
      → open_after m (within start docs (open_of all o))
      ≡ Some (within start docs (open_of (before ++ (g ∷ [])) nothing))
  next_taken g new h d =
      let fresh : is_repeated m (with_child (done_of f) (head_of f) v) ≡ false =
      repeated_any m f v ∙ new in
      stream_there ∙ rw fresh (ap (λ (x : Open). Some (within start docs x)) (last_frame before))
    where
      last_frame : (fs : List Frame)
          → open_of fs (within m (with_child (done_of f) (head_of f) v) nothing)
          ≡ open_of (fs ++ (g ∷ [])) nothing
      last_frame [] = rw (h, d) refl
      last_frame (x ∷ fs) = ap (within (head_of x) (done_of x)) (last_frame fs)

  pub next_refused : is_repeated m (with_child (done_of f) (head_of f) None) ≡ true
      → (open_after m (within start docs (open_of all o)) ≡ None)
      × (fault_of_mark m (within start docs (open_of all o)) ≡ DuplicateKey)
  next_refused old =
      let again : is_repeated m (with_child (done_of f) (head_of f) v) ≡ true =
      repeated_any m f v ∙ old in
      (stream_there ∙ rw again refl, rw (repeats_there, again) refl)

module _ (docs : List Child) (all : List Frame) (l : Last) (m : Mark)
    (place : next_place m all ≡ length all) (no_start : is_next start m ≡ false) where
  stream_none : open_after m (within start docs (open_of all (last_view l)))
      ≡ option_map (within start docs) (option_map (open_of all)
      (next_open (max_depth - length all) (last_head start all) m (last_view l)))
  stream_none = rw no_start
      (ap (option_map (within start docs)) (added_none all (last_view l) m place max_depth start))

  no_repeat : repeats m (within start docs (open_of all (last_view l))) ≡ false
  no_repeat = rw no_start (repeats_none all l m place)

  pub fault_begun : fault_of_mark m (within start docs (open_of all (last_view l))) ≡ cond
      (cond (is_nothing l) (has_room (last_head start all) m) false) TooDeep
      (cond (any_at (column m) all) Colon Indent)
  fault_begun = rw (no_repeat, begins_last start docs all l m, at_open_any all l m) refl

  -- a mark that isn't a line of a block scalar has no place within what stands there
  pub not_begun : ((b : Block) → with_raw b m ≡ None)
      → cond (is_nothing l) (has_room (last_head start all) m) false ≡ false
      → open_after m (within start docs (open_of all (last_view l))) ≡ None
  not_begun no_raw no_room = stream_none ∙ by_last l no_room
    where
      by_last : (k : Last) → cond (is_nothing k) (has_room (last_head start all) m) false ≡ false
          → option_map (within start docs) (option_map (open_of all)
          (next_open (max_depth - length all) (last_head start all) m (last_view k))) ≡ None
      by_last lasts.Nothing e = rw e refl
      by_last (lasts.Inline x) e = refl
      by_last (lasts.Block b) e = rw (no_raw (block_view b)) refl

  pub begun_there : cond (is_nothing l) (has_room (last_head start all) m) false ≡ true
      → open_after m (within start docs (open_of all (last_view l)))
      ≡ option_map (within start docs)
      (option_map (open_of all) (begun_node (max_depth - length all) m))
  begun_there room = stream_none ∙ by_last l room
    where
      by_last : (k : Last) → cond (is_nothing k) (has_room (last_head start all) m) false ≡ true
          → option_map (within start docs) (option_map (open_of all)
          (next_open (max_depth - length all) (last_head start all) m (last_view k))) ≡ option_map
          (within start docs) (option_map (open_of all) (begun_node (max_depth - length all) m))
      by_last lasts.Nothing e = rw e refl
      by_last (lasts.Inline x) e = absurd (false≢true e)
      by_last (lasts.Block b) e = absurd (false≢true e)

pub last_head_at : (h : Mark) (fs : List Frame) (d : Frame) → 0 < length fs
    → last_head h fs ≡ head_of (get_or fs (length fs - 1) d)
last_head_at h [] d e = absurd (omega arith)
last_head_at h (f ∷ []) d e = refl
last_head_at h (f ∷ g ∷ fs) d e = last_head_at (head_of f) (g ∷ fs) d (omega arith)
    ∙ at_next (length fs) refl
  where
    at_next : (n : ℕ) → length fs ≡ n → head_of (get_or (g ∷ fs) (length (g ∷ fs) - 1) d)
        ≡ head_of (get_or (f ∷ g ∷ fs) (length (f ∷ g ∷ fs) - 1) d)
    at_next n e = let a : length (g ∷ fs) - 1 ≡ n = omega arith in
        let b : length (f ∷ g ∷ fs) - 1 ≡ suc n = omega arith in rw (a, b) refl

lt_true : (d : ℕ) → nat_lt 0 (suc d) ≡ true
lt_true d = grind (arith, nat_tests)

pub begun_key : (d n : ℕ) (k : List ℕ) → 0 < d
    → begun_node d (key n k) ≡ Some (within (key n k) [] nothing)
begun_key zero n k h = absurd (omega arith)
begun_key (suc d) n k h = refl

pub begun_key_none : (d n : ℕ) (k : List ℕ) → d ≡ 0 → begun_node d (key n k) ≡ None
begun_key_none d n k h = rw h refl

pub begun_dash : (d n : ℕ) → 0 < d → begun_node d (dash n) ≡ Some (within (dash n) [] nothing)
begun_dash zero n h = absurd (omega arith)
begun_dash (suc d) n h = refl

pub begun_dash_none : (d n : ℕ) → d ≡ 0 → begun_node d (dash n) ≡ None
begun_dash_none d n h = rw h refl

pub begun_value : (d n : ℕ) (x : Tree) → 0 < d → begun_node d (value n x) ≡ Some (inline x)
begun_value d n (scalar t p) h = refl
begun_value zero n (mapping es) h = absurd (omega arith)
begun_value (suc d) n (mapping es) h = rw (lt_true d) refl
begun_value zero n (sequence xs) h = absurd (omega arith)
begun_value (suc d) n (sequence xs) h = rw (lt_true d) refl

pub begun_scalar : (d n : ℕ) (x : Tree) → is_shallow 0 x ≡ true
    → begun_node d (value n x) ≡ Some (inline x)
begun_scalar d n (scalar t p) h = refl
begun_scalar d n (mapping es) h = absurd (false≢true h)
begun_scalar d n (sequence xs) h = absurd (false≢true h)

pub begun_value_none : (d n : ℕ) (x : Tree) → d ≡ 0 → is_shallow 0 x ≡ false
    → begun_node d (value n x) ≡ None
begun_value_none d n x e h = rw (e, h) refl

-- a map begins with its first key, and has no children yet
pub begun_map : (docs : List Node) (fs : List Frame) (d n : ℕ) (k : List ℕ) (f : Frame) (o : Open)
    → is_none (begun_node d (key n k)) ≡ false → head_of f ≡ key n k → done_of f ≡ []
    → o ≡ stream_of docs fs (within (head_of f) (done_of f) nothing)
    → BeginsAs docs fs (begun_node d (key n k)) o
begun_map docs fs zero n k f o some h e is = absurd (false≢true (sym some))
begun_map docs fs (suc d) n k f o some h e is = sym (ap Some
    (is ∙ ap (λ (m : Mark). stream_of docs fs (within m (done_of f) nothing)) h
    ∙ ap (λ (cs : List Child). stream_of docs fs (within (key n k) cs nothing)) e))

pub open_of_push : (fs : List Frame) (f : Frame) (o : Open)
    → open_of fs (within (head_of f) (done_of f) o) ≡ open_of (fs ++ (f ∷ [])) o
open_of_push [] f o = refl
open_of_push (g ∷ fs) f o = ap (within (head_of g) (done_of g)) (open_of_push fs f o)

pub ruleset begun_lemmas = (
  begun_key,
  begun_key_none,
  begun_dash,
  begun_dash_none,
  begun_value,
  begun_scalar,
  begun_value_none,
  open_of_push,
)

pub long_before : (all before : List Frame) (f : Frame) (at : ℕ)
    → take (at + 1) all ≡ before ++ (f ∷ []) → at < length all → length before ≡ at
long_before all before f at e h =
    let long : length (take (at + 1) all) ≡ at + 1 = length-take-le (at + 1) all (omega arith) in
    let more : length (before ++ (f ∷ [])) ≡ length before + 1 = simp length-append (omega arith) in
    let same : length (take (at + 1) all) ≡ length (before ++ (f ∷ [])) = ap length e in
    omega arith

pub no_raw : (mark : Rust) (b : Block) → with_raw b (mark_view mark) ≡ None
no_raw rust.Start b = refl
no_raw (rust.Dash n) b = refl
no_raw (rust.Key n k) b = refl
no_raw (rust.Value n x) b = refl
no_raw (rust.Header n s) b = refl

module _ (docs : List Node) (fs : List Frame) (begins : Option Open) (whole : Option Open)
    (w : ProfileFault) where
  pub begin_ok : whole ≡ option_map
      (within start (map (child start) docs)) (option_map (open_of fs) begins)
      → (r : Result OpenNodes LineError) → IfOk r (λ o. BeginsAs docs fs begins (nodes_open o))
      → IfOk r (λ o. whole ≡ Some (nodes_open o))
  begin_ok e (Ok o) h = e ∙ twice begins ∙ h
    where
      twice : (b : Option Open) → option_map (within start (map (child start) docs))
          (option_map (open_of fs) b) ≡ option_map (λ x. stream_of docs fs x) b
      twice None = refl
      twice (Some x) = refl
  begin_ok e (Err s) h = tt

  pub begin_refused : whole ≡ option_map (within start (map (child start) docs))
      (option_map (open_of fs) begins) → w ≡ TooDeep → (r : Result OpenNodes LineError)
      → IfErr r (λ s. Refuses s (λ v. (begins ≡ None) × (v ≡ TooDeep)))
      → IfErr r (λ s. Refuses s (λ v. (whole ≡ None) × (w ≡ v)))
  begin_refused e d (Ok o) h = tt
  begin_refused e d (Err (stops.Fault v)) h = (e ∙ rw h.0 refl, d ∙ sym h.1)
  begin_refused e d (Err stops.NoMemory) h = tt

raw_place : (l : List ℕ) (fs : List Frame) → next_place (raw l) fs ≡ length fs
raw_place l [] = refl
raw_place l (frames.Map n e ∷ fs) = ap suc (raw_place l fs)
raw_place l (frames.List n xs ∷ fs) = ap suc (raw_place l fs)

raw_room : (l : List ℕ) (h : Mark) → has_room h (raw l) ≡ false
raw_room l start = refl
raw_room l (dash n) = refl
raw_room l (key n k) = refl
raw_room l (value n x) = refl
raw_room l (header n s) = refl
raw_room l (raw j) = refl

none_at : (fs : List Frame) → any_at None fs ≡ false
none_at [] = refl
none_at (frames.Map n e ∷ fs) = none_at fs
none_at (frames.List n xs ∷ fs) = none_at fs

pub raw_taken : (docs : List Child) (fs : List Frame) (b : Block) (l : List ℕ)
    → open_after (raw l) (within start docs (open_of fs (block b)))
    ≡ Some (within start docs (open_of fs (block (with_line b l))))
raw_taken docs fs b l = ap (option_map (within start docs))
    (added_none fs (block b) (raw l) (raw_place l fs) max_depth start)

pub raw_refused : (docs : List Child) (fs : List Frame) (k : Last) (l : List ℕ)
    → ((b : Lines) → k ≡ lasts.Block b → ⊥)
    → (open_after (raw l) (within start docs (open_of fs (last_view k))) ≡ None)
    × (fault_of_mark (raw l) (within start docs (open_of fs (last_view k))) ≡ Indent)
raw_refused docs fs k l other = (
  ap (option_map (within start docs))
      (added_none fs (last_view k) (raw l) (raw_place l fs) max_depth start) ∙ by_last k other,
  fault_begun docs fs k (raw l) (raw_place l fs) refl ∙ fault k,
)
  where
    by_last : (j : Last) → ((b : Lines) → j ≡ lasts.Block b → ⊥)
        → option_map (within start docs) (option_map (open_of fs)
        (next_open (max_depth - length fs) (last_head start fs) (raw l) (last_view j))) ≡ None
    by_last lasts.Nothing n = rw (raw_room l (last_head start fs)) refl
    by_last (lasts.Inline x) n = refl
    by_last (lasts.Block b) n = absurd (n b refl)

    fault : (j : Last) → cond (cond (is_nothing j) (has_room (last_head start fs) (raw l)) false)
        TooDeep (cond (any_at (column (raw l)) fs) Colon Indent) ≡ Indent
    fault lasts.Nothing = rw (raw_room l (last_head start fs), none_at fs) refl
    fault (lasts.Inline x) = rw (none_at fs) refl
    fault (lasts.Block b) = rw (none_at fs) refl

-- a frame stands at the column, or the search goes on behind it
any_here : (c : Option ℕ) (fs : List Frame) (at : ℕ) (f : Frame) → at < length fs
    → f ≡ get_or fs at f
    → any_at c (drop at fs) ≡ (same_column (column (head_of f)) c || any_at c (drop (at + 1) fs))
any_here c fs at f h is = any_at_more c fs at f h
    ∙ ap (λ (g : Frame). same_column (column (head_of g)) c || any_at c (drop (at + 1) fs)) (sym is)

pub any_found : (c : Option ℕ) (fs : List Frame) (at : ℕ) (f : Frame) (all : Bool) → at < length fs
    → f ≡ get_or fs at f → same_column (column (head_of f)) c ≡ true
    → any_at c (drop at fs) ≡ all → true ≡ all
any_found c fs at f all h is e i =
    sym (any_here c fs at f h is ∙ ap (λ (b : Bool). b || any_at c (drop (at + 1) fs)) e) ∙ i

pub any_passed : (c : Option ℕ) (fs : List Frame) (at : ℕ) (f : Frame) (all : Bool) → at < length fs
    → f ≡ get_or fs at f → same_column (column (head_of f)) c ≡ false
    → any_at c (drop at fs) ≡ all → any_at c (drop (at + 1) fs) ≡ all
any_passed c fs at f all h is e i =
    sym (any_here c fs at f h is ∙ ap (λ (b : Bool). b || any_at c (drop (at + 1) fs)) e) ∙ i

pub any_none : (c : Option ℕ) (fs : List Frame) (at : ℕ) (all : Bool) → length fs ≤ at
    → any_at c (drop at fs) ≡ all → false ≡ all
any_none c fs at all h i = sym (ap (any_at c) (drop_all at fs h)) ∙ i

-- the mark is a frame's next one, or the search goes on behind it
next_here : (m : Mark) (fs : List Frame) (at : ℕ) (f : Frame) → at < length fs → f ≡ get_or fs at f
    → next_place m (drop at fs)
    ≡ cond (is_next (head_of f) m) 0 (suc (next_place m (drop (at + 1) fs)))
next_here m fs at f h is = next_place_more m fs at f h ∙ ap
    (λ (g : Frame). cond (is_next (head_of g) m) 0 (suc (next_place m (drop (at + 1) fs)))) (sym is)

pub next_stops : (m : Mark) (fs : List Frame) (at : ℕ) (f : Frame) (n : ℕ) → at < length fs
    → f ≡ get_or fs at f → is_next (head_of f) m ≡ true
    → at + next_place m (drop at fs) ≡ n → at ≡ n
next_stops m fs at f n h is e i =
    let z : next_place m (drop at fs) ≡ 0 = next_here m fs at f h is
    ∙ ap (λ (b : Bool). cond b 0 (suc (next_place m (drop (at + 1) fs)))) e in
    omega (arith, z, i)

pub next_goes : (m : Mark) (fs : List Frame) (at : ℕ) (f : Frame) (n : ℕ) → at < length fs
    → f ≡ get_or fs at f → is_next (head_of f) m ≡ false
    → at + next_place m (drop at fs) ≡ n → (at + 1) + next_place m (drop (at + 1) fs) ≡ n
next_goes m fs at f n h is e i =
    let z : next_place m (drop at fs) ≡ suc (next_place m (drop (at + 1) fs)) =
    next_here m fs at f h is
    ∙ ap (λ (b : Bool). cond b 0 (suc (next_place m (drop (at + 1) fs)))) e in
    omega (arith, z, i)

pub next_ends : (m : Mark) (fs : List Frame) (at n : ℕ) → length fs ≤ at → at ≤ length fs
    → at + next_place m (drop at fs) ≡ n → length fs ≡ n
next_ends m fs at n h j i =
    let z : next_place m (drop at fs) ≡ 0 = ap (next_place m) (drop_all at fs h) in
    omega (arith, z, i)

-- the next key of a map stands at its column
pub goes_at_column : (n m : ℕ) (e : OpenEntries) (next : ScalarText) (f : Frame) (k : Mark)
    (v : Option Tree) (o : Option Frame)
    → f ≡ frames.Map n e → k ≡ key m next → is_next (head_of f) k ≡ true
    → GoesOn (frames.Map n e) v (key n next) o → GoesOn f v k o
goes_at_column n m e next f k v o is_map is_key follows goes =
    let here : is_next (head_of f) k ≡ (n == m) =
    ap (λ (g : Frame). is_next (head_of g) k) is_map
    ∙ ap (λ (x : Mark). is_next (key n e.1) x) is_key in
    let same : n ≡ m = eqb-true n m (sym here ∙ follows) in
    subst (λ (g : Frame). GoesOn g v k o) (sym is_map)
    (subst (λ (x : Mark). GoesOn (frames.Map n e) v x o)
    (ap (λ (i : ℕ). key i next) same ∙ sym is_key) goes)

dash_follows : (n : ℕ) (m : Mark) → is_next (dash n) m ≡ true → m ≡ dash n
dash_follows n start e = absurd (false≢true e)
dash_follows n (dash k) e = ap dash (sym (eqb-true n k e))
dash_follows n (key k t) e = absurd (false≢true e)
dash_follows n (value k x) e = absurd (false≢true e)
dash_follows n (header k s) e = absurd (false≢true e)
dash_follows n (raw l) e = absurd (false≢true e)

-- a list goes on at each next dash
pub list_goes : (n : ℕ) (old new : Vec Node) (f : Frame) (m : Mark) (v : Option Tree)
    → f ≡ frames.List n old → is_next (head_of f) m ≡ true
    → map (child (dash n)) new.items ≡ with_child (map (child (dash n)) old.items) (dash n) v
    → GoesOn f v m (Some (frames.List n new))
list_goes n old new f m v is_list follows more =
    let next : is_next (dash n) m ≡ true =
    sym (ap (λ (g : Frame). is_next (head_of g) m) is_list) ∙ follows in
    subst (λ (g : Frame). GoesOn g v m (Some (frames.List n new))) (sym is_list)
    (subst (λ (x : Mark). GoesOn (frames.List n old) v x (Some (frames.List n new)))
    (sym (dash_follows n m next)) (refl, refl, more))
