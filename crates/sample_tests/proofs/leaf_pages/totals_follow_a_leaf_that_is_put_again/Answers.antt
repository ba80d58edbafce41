use Rattle.std.proofs.Common.{refl}
use Rattle.std.proofs.lemmas.Nat.Gcd.{dvd_of_mod-eq-zero}
use Rattle.sample_tests.proofs.leaf_pages.totals_follow_a_leaf_that_is_put_again.Goals as goal

pub start-pages-requires : goal.start-pages-requires
start-pages-requires g c = dvd_of_mod-eq-zero 12 {n = 60} refl
