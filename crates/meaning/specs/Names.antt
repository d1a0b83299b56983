-- The names of rules and faults, as the program prints them (own).
use Rattle.std.specs.Prelude.{ℕ, List, codes}
use Rattle.meaning.specs.declared.ending.FaultKind.{FaultKind}
use Rattle.meaning.specs.declared.ending.FaultKind.TheVariants as faults
use Rattle.meaning.specs.declared.refusal.Rule.{Rule}
use Rattle.meaning.specs.declared.refusal.Rule.TheVariants as rules

abbrev pub fault_name : FaultKind → List ℕ
fault_name faults.F1 = codes "F1"
fault_name faults.F2 = codes "F2"
fault_name faults.F3 = codes "F3"
fault_name faults.F4 = codes "F4"
fault_name faults.F5 = codes "F5"
fault_name faults.F6 = codes "F6"
fault_name faults.F7 = codes "F7"
fault_name faults.F8 = codes "F8"

abbrev pub rule_name : Rule → List ℕ
rule_name rules.C1 = codes "C1"
rule_name rules.C2 = codes "C2"
rule_name rules.C3 = codes "C3"
rule_name rules.C4 = codes "C4"
rule_name rules.C5 = codes "C5"
rule_name rules.C6 = codes "C6"
rule_name rules.C7 = codes "C7"
rule_name rules.G1 = codes "G1"
rule_name rules.G2 = codes "G2"
rule_name rules.G3 = codes "G3"
rule_name rules.N1 = codes "N1"
rule_name rules.N2 = codes "N2"
rule_name rules.N3 = codes "N3"
rule_name rules.N4 = codes "N4"
rule_name rules.N5 = codes "N5"
rule_name rules.K1 = codes "K1"
rule_name rules.K2 = codes "K2"
rule_name rules.K3 = codes "K3"
rule_name rules.K4 = codes "K4"
rule_name rules.K5 = codes "K5"
rule_name rules.K6 = codes "K6"
rule_name rules.K7 = codes "K7"
rule_name rules.K8 = codes "K8"
rule_name rules.K9 = codes "K9"
rule_name rules.K10 = codes "K10"
rule_name rules.K11 = codes "K11"
rule_name rules.K12 = codes "K12"
rule_name rules.K13 = codes "K13"
