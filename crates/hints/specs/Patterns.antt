-- Patterns (own). A small letter in them stands for some characters, and any other character for
-- itself. Texts have no small letters.
use Rattle.std.specs.Prelude.{ℕ, Bool, true, false, not, ◌||◌, ◌&&◌, ◌==◌, List, [], ◌∷◌}
use Rattle.std.specs.Prelude.{if◌then◌else◌}
use Rattle.meaning.specs.Characters.{blank, is_alphanumeric, is_digit, is_letter}

-- a: where an assignment or a DO statement begins. b: where another statement begins, or a line. d:
-- a digit. e: a digit or a blank. l: a letter. m: no letter. n: neither a letter nor a digit. q: a
-- quotation mark. s: a sign. t: a tab. u: a digit but 6. x: D or E. z: where a statement ends
abbrev pub fits : ℕ → ℕ → Bool
fits p c =
    if p == 97 then c == 13
    else (if (p == 98) || (p == 122) then c == 10
    else (if p == 100 then is_digit c
    else (if p == 101 then is_digit c || (c == blank)
    else (if p == 108 then is_letter c
    else (if p == 109 then not (is_letter c)
    else (if p == 110 then not (is_alphanumeric c)
    else (if p == 113 then c == 34
    else (if p == 115 then (c == 43) || (c == 45)
    else (if p == 116 then c == 9
    else (if p == 117 then is_digit c && not (c == 54)
    else (if p == 120 then (c == 68) || (c == 69)
    else c == p)))))))))))

-- a text begins with a pattern
unfoldable pub begins : List ℕ → List ℕ → Bool
begins text [] = true
begins [] (p ∷ ps) = false
begins (c ∷ cs) (p ∷ ps) = fits p c && begins cs ps

-- or has it at some place
unfoldable pub holds : List ℕ → List ℕ → Bool
holds [] pattern = begins [] pattern
holds (c ∷ cs) pattern = begins (c ∷ cs) pattern || holds cs pattern
