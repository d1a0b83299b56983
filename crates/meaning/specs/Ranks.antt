-- The number of a rule in its phase. Of two rules broken at one line the lesser is told.
use Rattle.std.specs.Prelude.{ℕ}
use Rattle.meaning.specs.declared.refusal.Rule.{Rule}
use Rattle.meaning.specs.declared.refusal.Rule.TheVariants.{C1, C2, C3, C4, C5, C6, C7, G1, G2, G3}
use Rattle.meaning.specs.declared.refusal.Rule.TheVariants.{N1, N2, N3, N4, N5, K1, K2, K3, K4, K5}
use Rattle.meaning.specs.declared.refusal.Rule.TheVariants.{K6, K7, K8, K9, K10, K11, K12, K13}

abbrev pub rank_of : Rule → ℕ
rank_of C1 = 1
rank_of C2 = 2
rank_of C3 = 3
rank_of C4 = 4
rank_of C5 = 5
rank_of C6 = 6
rank_of C7 = 7
rank_of G1 = 1
rank_of G2 = 2
rank_of G3 = 3
rank_of N1 = 1
rank_of N2 = 2
rank_of N3 = 3
rank_of N4 = 4
rank_of N5 = 5
rank_of K1 = 1
rank_of K2 = 2
rank_of K3 = 3
rank_of K4 = 4
rank_of K5 = 5
rank_of K6 = 6
rank_of K7 = 7
rank_of K8 = 8
rank_of K9 = 9
rank_of K10 = 10
rank_of K11 = 11
rank_of K12 = 12
rank_of K13 = 13
