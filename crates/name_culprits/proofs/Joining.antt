-- Three texts behind a text, one after another.
use Rattle.std.proofs.Common.{◌≡◌, ℕ, List, ◌++◌, append_assoc, ap, ◌∙◌}

pub three_joined : (a w l t b c d : List ℕ) → b ≡ a ++ w → c ≡ b ++ l → d ≡ c ++ t → d ≡ a ++ (w ++ (l ++ t))
three_joined a w l t b c d first second third =
    third ∙ ap (λ x. x ++ t) second ∙ ap (λ x. (x ++ l) ++ t) first ∙ append_assoc (a ++ w) l t ∙ append_assoc a w (l ++ t)
