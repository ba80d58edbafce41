-- How the router goes through the routes: by bytes, by a part of a path, by all that is left.
use Rattle.std.proofs.Common.{◌≡◌, ◌==◌, ◌<◌, ◌-◌, ℕ, zero, suc, Bool, true, false, List, [], ◌∷◌}
use Rattle.std.proofs.Common.{◌++◌, Option, Some, None, length, refl, ap, arith, cond}
use Rattle.std.specs.Prelude.{ltb}
use Rattle.std.proofs.lemmas.List.{length-append}
use Rattle.std.proofs.Math.Seq.{drop-append_seam}
use Rattle.matchit.specs.Rows.{RowsOf as TableOf}
use Rattle.matchit.specs.Router.{RouteOf}
use Rattle.matchit.specs.Seek.{cuts, has_slash, or_else, own, segment, seek, step, param_step}
use Rattle.wire_routes.specs.declared.place.Route.{Route}
use Rattle.wire_routes.specs.Table.{RouteTable}

-- a segment up to its slash
segment_name : (k rest : List ℕ) → has_slash k ≡ false → segment (k ++ 47 ∷ rest) ≡ k ++ 47 ∷ []
segment_name [] rest h = refl
segment_name (x ∷ k) rest h = by (x == 47) h (segment_name k rest)
  where
    by : (b : Bool) → cond b true (has_slash k) ≡ false
        → (has_slash k ≡ false → segment (k ++ 47 ∷ rest) ≡ k ++ 47 ∷ [])
        → cond b (x ∷ []) (x ∷ segment (k ++ 47 ∷ rest)) ≡ x ∷ (k ++ 47 ∷ [])
    by true q more = cc q
    by false q more = ap (λ (t : List ℕ). x ∷ t) (more q)

-- an empty table has no route
seek_none : (n : ℕ) (path : List ℕ) → seek {K = RouteOf Route} n [] path ≡ None
unfolding seek param_step
seek_none zero [] = refl
seek_none (suc n) [] = refl
seek_none (suc n) (b ∷ path) = seek_none n path
seek_none zero (b ∷ path) =
    rw (seek_none zero path) (by (cond (b == 47) true (has_slash path)) (λ n. seek_none n path))
  where
    by : (c : Bool) → ((n : ℕ) → seek {K = RouteOf Route} n [] path ≡ None)
        → or_else (seek {K = RouteOf Route} ((cond {A = ℕ × TableOf (RouteOf Route)} c (
          0,
          [],
        ) (suc (length path), [])).0 - 1) (cond {A = ℕ × TableOf (RouteOf Route)} c (
          0,
          [],
        ) (suc (length path), [])).1 path) None ≡ None
    by true none = rw (none 0) refl
    by false none = rw (none (suc (length path) - 1)) refl

-- bytes that a parameter took
seek_skip : (rs : RouteTable) (xs ys : List ℕ) → seek (length xs) rs (xs ++ ys) ≡ seek 0 rs ys
unfolding seek
seek_skip rs [] ys = refl
seek_skip rs (x ∷ xs) ys = seek_skip rs xs ys

seek_end : (rs : RouteTable) (xs : List ℕ) → seek (length xs) rs xs ≡ own rs
unfolding seek
seek_end rs [] = refl
seek_end rs (x ∷ xs) = seek_end rs xs

-- a parameter that no route has
param_none : (b : ℕ) (path : List ℕ)
    → seek {K = RouteOf Route} ((param_step {K = RouteOf Route} [] (b ∷ path)).0 - 1)
    (param_step {K = RouteOf Route} [] (b ∷ path)).1 path ≡ None
unfolding param_step
param_none b path = by (cond (b == 47) true (has_slash path))
  where
    by : (c : Bool) → seek {K = RouteOf Route}
        ((cond {A = ℕ × TableOf (RouteOf Route)} c (0, []) (suc (length path), [])).0 - 1)
        (cond {A = ℕ × TableOf (RouteOf Route)} c (0, []) (suc (length path), [])).1 path ≡ None
    by true = seek_none (0 - 1) path
    by false = seek_none (suc (length path) - 1) path

or_none : (o : Option (RouteOf Route)) → or_else o None ≡ o
or_none None = refl
or_none (Some r) = refl

sub_suc : (n : ℕ) → suc n - 1 ≡ n
sub_suc n = omega arith

no_token : (x : ℕ) → x < 256 → (256 == x) ≡ false
no_token x h = grind (arith)

-- a slash that the route has
seek_slash : (p rest : List ℕ) (r : RouteOf Route)
    → seek 0 ((47 ∷ p, r) ∷ []) (47 ∷ rest) ≡ seek 0 ((p, r) ∷ []) rest
unfolding seek
seek_slash p rest r = rw (param_none 47 rest) (or_none (seek 0 ((p, r) ∷ []) rest))

-- the name before a slash, cut from its segment
cuts_name : (x : ℕ) (k : List ℕ) → cuts ((x ∷ k) ++ 47 ∷ []) (47 ∷ []) ≡ true
cuts_name x k =
    let n = length-append (x ∷ k) (47 ∷ []) in
    let m : length ((x ∷ k) ++ 47 ∷ []) - 1 ≡ length (x ∷ k) = omega arith in
    let l : ltb 1 (length ((x ∷ k) ++ 47 ∷ [])) ≡ true = grind (arith, n) in
    rw (l, m, drop-append_seam (x ∷ k) (47 ∷ [])) refl

-- what a name and a slash take
param_name : (x : ℕ) (k p rest : List ℕ) (r : RouteOf Route) → has_slash (x ∷ k) ≡ false
    → param_step ((47 ∷ p, r) ∷ []) ((x ∷ k) ++ 47 ∷ rest) ≡ (suc (length k), (47 ∷ p, r) ∷ [])
unfolding param_step
param_name x k p rest r none =
    let n = length-append (x ∷ k) (47 ∷ []) in
    let m : length ((x ∷ k) ++ 47 ∷ []) - 1 ≡ suc (length k) = omega arith in
    rw (segment_name (x ∷ k) rest none, cuts_name x k, m) refl

-- a name at the end
pub seek_last : (x : ℕ) (k : List ℕ) (r : RouteOf Route) → x < 256 → has_slash (x ∷ k) ≡ false
    → seek 0 ((256 ∷ [], r) ∷ []) (x ∷ k) ≡ Some r
unfolding seek param_step
seek_last x k r small none = rw (
  no_token x small,
  seek_none 0 k,
  none,
  sub_suc (length k),
  seek_end (([], r) ∷ []) k,
) refl

-- a name and a slash
pub seek_name : (x : ℕ) (k p rest : List ℕ) (r : RouteOf Route) → x < 256
    → has_slash (x ∷ k) ≡ false
    → seek 0 ((256 ∷ 47 ∷ p, r) ∷ []) ((x ∷ k) ++ 47 ∷ rest) ≡ seek 0 ((p, r) ∷ []) rest
unfolding seek
seek_name x k p rest r small none =
    rw (
      no_token x small,
      seek_none 0 (k ++ 47 ∷ rest),
      param_name x k p rest r none,
      sub_suc (length k),
      seek_skip ((47 ∷ p, r) ∷ []) k (47 ∷ rest),
      seek_slash p rest r,
    )
    (or_none (seek 0 ((p, r) ∷ []) rest))

-- the routes that go on with these tokens
abbrev pub steps : List ℕ → RouteTable → RouteTable
steps [] rs = rs
steps (b ∷ bs) rs = steps bs (step b rs)

-- a byte with a route behind it is met before anything else
seek_via : (b : ℕ) (rs : RouteTable) (path : List ℕ) (q : RouteOf Route)
    → seek 0 (step b rs) path ≡ Some q → seek 0 rs (b ∷ path) ≡ Some q
unfolding seek
seek_via b rs path q h = rw h refl

pub seek_literal : (bs : List ℕ) (rs : RouteTable) (path : List ℕ) (q : RouteOf Route)
    → seek 0 (steps bs rs) path ≡ Some q → seek 0 rs (bs ++ path) ≡ Some q
seek_literal [] rs path q h = h
seek_literal (b ∷ bs) rs path q h =
    seek_via b rs (bs ++ path) q (seek_literal bs (step b rs) path q h)

-- a rest at the end that keeps its slashes
pub seek_rest : (x : ℕ) (n : List ℕ) (r : RouteOf Route) → x < 256
    → seek 0 ((257 ∷ [], r) ∷ []) (x ∷ n) ≡ Some r
unfolding seek
seek_rest x n r small =
    let a : (257 == x) ≡ false = grind (arith) in
    rw (a, seek_none 0 n, param_none x n) refl
