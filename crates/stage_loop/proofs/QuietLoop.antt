-- What was put into a variable is there.
use Rattle.std.proofs.Common.{◌≡◌, ℕ, ℤ, ◌&&◌, true, if◌then◌else◌, List, [], refl, ap}
use Rattle.std.proofs.lemmas.Slice.Eq.{bytes_eq-Decides}
use Rattle.meaning.specs.Maps.{Map, put}

pub put_here : (m : Map) (v : List ℕ) (x : ℤ) → put m v [] x v [] ≡ x
unfolding put
put_here m v x = ap (λ b. if b && true then x else m v []) ((bytes_eq-Decides v v).1 refl)
