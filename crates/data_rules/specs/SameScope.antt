-- Scopes that are left as they were.
use Rattle.std.specs.Prelude.{◌≡◌}
use Rattle.declarations.specs.declared.known.Scope.{Scope}

pub record IsSameScope (s t : Scope) : Type 0 where
  pub own : t.own.items ≡ s.own.items
  pub table : t.table ≡ s.table
