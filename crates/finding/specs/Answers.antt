-- What is told of a question of yes or no: a witness where the answer is yes, and nothing only
-- where it is no.
use Rattle.std.specs.Prelude.{◌≡◌, Bool, false, Option, Some, None, IsTrue}

abbrev pub IsAnswer : {K : Type 0} → (K → Type 0) → Bool → Option K → Type 0
IsAnswer by b (Some k) = IsTrue b × by k
IsAnswer by b None = b ≡ false
