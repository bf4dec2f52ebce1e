-- The program's text (document 01, "Program"), as a list of ASCII codes. Assumes nothing.
use Rattle.std.specs.Prelude.{true, false, List, [], ◌∷◌, ◌++◌, ℕ, zero, suc, ◌+◌, ◌/◌, ◌%◌, ltb}
use Rattle.query.specs.Questions.{cost}

-- x in decimal, without leading zeros. The first argument bounds the digits
unfoldable pub decimal_in : ℕ → ℕ → List ℕ
decimal_in zero x = []
decimal_in (suc d) x = elim (ltb x 10) [ true ↦ (48 + x) ∷ [] | false ↦ decimal_in d (x / 10) ++ ((48 + x % 10) ∷ []) ]

-- a number of 64 bits has at most 20 digits
unfoldable pub decimal : ℕ → List ℕ
decimal x = decimal_in 20 x

abbrev pub newline : List ℕ
newline = 10 ∷ []

-- a word and a number behind it
abbrev pub field : List ℕ → ℕ → List ℕ
field word x = word ++ decimal x

-- "slots "
abbrev pub slots_word : List ℕ
slots_word = 115 ∷ 108 ∷ 111 ∷ 116 ∷ 115 ∷ 32 ∷ []

-- " schools "
abbrev pub schools_word : List ℕ
schools_word = 32 ∷ 115 ∷ 99 ∷ 104 ∷ 111 ∷ 111 ∷ 108 ∷ 115 ∷ 32 ∷ []

-- " packages "
abbrev pub packages_word : List ℕ
packages_word = 32 ∷ 112 ∷ 97 ∷ 99 ∷ 107 ∷ 97 ∷ 103 ∷ 101 ∷ 115 ∷ 32 ∷ []

-- "\nnodes "
abbrev pub nodes_word : List ℕ
nodes_word = 10 ∷ 110 ∷ 111 ∷ 100 ∷ 101 ∷ 115 ∷ 32 ∷ []

-- " steps "
abbrev pub steps_word : List ℕ
steps_word = 32 ∷ 115 ∷ 116 ∷ 101 ∷ 112 ∷ 115 ∷ 32 ∷ []

-- "\ntimetables "
abbrev pub timetables_word : List ℕ
timetables_word = 10 ∷ 116 ∷ 105 ∷ 109 ∷ 101 ∷ 116 ∷ 97 ∷ 98 ∷ 108 ∷ 101 ∷ 115 ∷ 32 ∷ []

-- " cost "
abbrev pub cost_word : List ℕ
cost_word = 32 ∷ 99 ∷ 111 ∷ 115 ∷ 116 ∷ 32 ∷ []

-- "cheapest "
abbrev pub cheapest_word : List ℕ
cheapest_word = 99 ∷ 104 ∷ 101 ∷ 97 ∷ 112 ∷ 101 ∷ 115 ∷ 116 ∷ 32 ∷ []

-- "refused "
abbrev pub refused_word : List ℕ
refused_word = 114 ∷ 101 ∷ 102 ∷ 117 ∷ 115 ∷ 101 ∷ 100 ∷ 32 ∷ []

-- "cheapest none\n"
abbrev pub none_line : List ℕ
none_line = 99 ∷ 104 ∷ 101 ∷ 97 ∷ 112 ∷ 101 ∷ 115 ∷ 116 ∷ 32 ∷ 110 ∷ 111 ∷ 110 ∷ 101 ∷ 10 ∷ []

-- lines 1 to 3: "slots T schools S packages N", "nodes MADE steps STEPS", "timetables COUNT"
unfoldable pub head : (s t n made steps count : ℕ) → List ℕ
head s t n made steps count =
    field slots_word t ++ (field schools_word s ++ (field packages_word n ++ (field nodes_word made ++ (field steps_word steps ++ (field timetables_word count ++ newline)))))

-- the packages of a timetable, each behind a space
unfoldable pub packages_text : List ℕ → List ℕ
packages_text [] = []
packages_text (p ∷ s) = field (32 ∷ []) p ++ packages_text s

-- the line of the timetable s, the k-th, with the costs C: "K cost COST: P P .."
unfoldable pub timetable_line : List ℕ → ℕ → List ℕ → List ℕ
timetable_line C k s = decimal k ++ (field cost_word (cost C s) ++ ((58 ∷ []) ++ (packages_text s ++ newline)))

-- "cheapest K"
unfoldable pub cheapest_line : ℕ → List ℕ
cheapest_line k = field cheapest_word k ++ newline

-- "refused N"
unfoldable pub refused_line : ℕ → List ℕ
refused_line n = field refused_word n ++ newline
