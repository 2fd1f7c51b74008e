-- A row of the table as bytes.
use Rattle.std.specs.Prelude.{ℕ, ◌-◌, ◌^◌, false, if◌then◌else◌, nat_le, List, [], ◌∷◌, ◌++◌, length, codes}
use Rattle.std.specs.Fmt.{styled_text, styled_decimal}

-- a text in a width, to the side 1 (left), 3 (right) or 0 (a text's own, which is left)
abbrev pub in_width : ℕ → ℕ → List ℕ → List ℕ
in_width side width text = styled_text (record { fill = 32; align = side; plus = false; alternate = false; zero = false; width = width; precision = 2 ^ 64 - 1 }) text

-- a number in a width, to the right
abbrev pub number_in : ℕ → ℕ → List ℕ
number_in width n = styled_decimal (record { fill = 32; align = 3; plus = false; alternate = false; zero = false; width = width; precision = 2 ^ 64 - 1 }) n

-- a text in its column, or, where it is too long, with the place of the next column on a new line behind it
abbrev pub cell_text : List ℕ → ℕ → ℕ → List ℕ
cell_text text width next =
    if nat_le (length text) width then in_width 1 width text ++ codes "  " else text ++ (10 ∷ in_width 0 next [])

-- what stands behind the number of the line
abbrev pub cells_text : List ℕ → List ℕ → List ℕ → List ℕ → List ℕ
cells_text call prover instead verifier = codes "  " ++ (cell_text call 36 44 ++ (cell_text prover 16 62 ++ (cell_text instead 16 80 ++ verifier)))

-- a row of a line with its number, and the names of the columns
abbrev pub row_text : ℕ → List ℕ → List ℕ → List ℕ → List ℕ → List ℕ
row_text number call prover instead verifier = number_in 4 number ++ cells_text call prover instead verifier

abbrev pub head_text : List ℕ
head_text = in_width 3 4 (codes "line") ++ cells_text (codes "call") (codes "prover") (codes "verifier calls") (codes "verifier")
