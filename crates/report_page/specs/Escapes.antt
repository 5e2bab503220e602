-- Text in a page. (HTML Living Standard, 13.5: five bytes stand there by their references.)
use Rattle.std.specs.Prelude.{ℕ, Bool, not, ◌&&◌, ◌==◌, List, [], ◌∷◌, codes, if◌then◌else◌}
use Rattle.std.specs.List.{flat_map}

-- a byte as it stands in a page: `&`, `<`, `>`, `"` and `'` by their references
abbrev pub escape : ℕ → List ℕ
escape b =
    if b == 38 then codes "&amp;"
    else if b == 60 then codes "&lt;"
    else if b == 62 then codes "&gt;"
    else if b == 34 then codes "&quot;"
    else if b == 39 then codes "&#39;"
    else b ∷ []

abbrev pub escaped : List ℕ → List ℕ
escaped text = flat_map escape text

-- none of `<`, `>`, `"` and `'`
abbrev pub is_plain : ℕ → Bool
is_plain b = not (b == 60) && not (b == 62) && not (b == 34) && not (b == 39)
