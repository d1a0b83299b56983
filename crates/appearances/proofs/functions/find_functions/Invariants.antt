use Rattle.std.proofs.Common.{◌≤◌, drop}
use Rattle.symbols.specs.SymbolsAt.{symbols_at}
use Rattle.appearances.specs.FunctionsFound.{Finding, defined_in}
use Rattle.appearances.proofs.functions.find_functions.Given as goal

abbrev pub invariant-loop-member : goal.invariant-loop-member
invariant-loop-member l = record {
  few : l.at ≤ l.member;
  finding : Finding (defined_in (symbols_at l.symbols).names.arrays l.body) (defined_in (symbols_at l.symbols).names.arrays (drop l.member l.body)) l.body l.functions l.at;
}
