-- Four texts behind a text, one after another.
use Rattle.std.proofs.Common.{◌≡◌, ℕ, List, ◌++◌, append_assoc, ap, ◌∙◌}

pub four_joined : (a w l t u b c d e : List ℕ) → b ≡ a ++ w → c ≡ b ++ l → d ≡ c ++ t → e ≡ d ++ u → e ≡ a ++ (w ++ (l ++ (t ++ u)))
four_joined a w l t u b c d e first second third fourth =
    fourth ∙ ap (λ x. x ++ u) third ∙ ap (λ x. (x ++ t) ++ u) second ∙ ap (λ x. ((x ++ l) ++ t) ++ u) first
    ∙ append_assoc ((a ++ w) ++ l) t u ∙ append_assoc (a ++ w) l (t ++ u) ∙ append_assoc a w (l ++ (t ++ u))
