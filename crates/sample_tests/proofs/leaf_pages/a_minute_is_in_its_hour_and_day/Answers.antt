use Rattle.std.proofs.Common.{refl}
use Rattle.std.proofs.lemmas.Nat.Gcd.{dvd_of_mod-eq-zero}
use Rattle.sample_tests.proofs.leaf_pages.a_minute_is_in_its_hour_and_day.Goals as goal

pub start-pages-requires : goal.start-pages-requires
start-pages-requires g c = dvd_of_mod-eq-zero 60 {n = 60} refl
