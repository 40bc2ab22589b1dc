-- The printing programs: "four lines of the same hexadecimal, each ended by one line feed, rules 0 to 3: rule (1 byte), answer (1),
-- place (1), shifts (1), G (2), steps (4); the last three are zero on a refusal, and a reading refusal stands on all four lines".
use Rattle.std.specs.Prelude.{ℕ, zero, suc, ◌+◌, ◌*◌, ◌/◌, ◌%◌, List, [], ◌∷◌, ◌++◌, cond, ltb, take, replicate}
use Rattle.rules.specs.Limits.{vector_bytes, window_most, nodes_most, section_most, head_entries, row_entries, instruction_entries, text_most}
use Rattle.rules.specs.Answers.{Answer, first}
use Rattle.rules.specs.Trees.{Tree, shifts}
use Rattle.rules.specs.Placing.{place}
use Rattle.rules.specs.Code.{G, steps_of}
use Rattle.rules.specs.Tables.{Graph, graph_of}
use Rattle.rules.specs.Calls.{WithSheet, reading, graph_tree, translating, planning}
use Rattle.rules.specs.declared.printing.Figures.{Figures}

-- ---- hexadecimal

-- 0 to 9 are bytes 48 to 57, A to F are bytes 65 to 70
unfoldable pub digit_byte : ℕ → ℕ
digit_byte d = cond (ltb d 10) (d + 48) (d + 55)

-- each byte as two digits
unfoldable pub hex : List ℕ → List ℕ
hex [] = []
hex (b ∷ bs) = digit_byte (b / 16) ∷ digit_byte (b % 16) ∷ hex bs

-- a field of so many bytes, the most significant first
abbrev pub field : (bytes value : ℕ) → List ℕ
field zero value = []
field (suc k) value = field k (value / 256) ++ (value % 256 ∷ [])

abbrev pub line_feed : ℕ
line_feed = 10

-- ---- a line

abbrev pub line_bytes : (label : ℕ) → Figures → List ℕ
line_bytes label f =
    field 1 label ++ field 1 f.answer ++ field 1 f.place ++ field 1 f.shifts ++ field 2 f.size ++ field 4 f.steps

unfoldable pub line : (label : ℕ) → Figures → List ℕ
line label f = hex (line_bytes label f) ++ (line_feed ∷ [])

-- an answer, and on done what is said of the tree of a loop
abbrev pub figures_by : (number : ℕ) → Answer → Graph → Tree → Figures
figures_by zero answer g t =
    record {
      answer = answer.number;
      place = answer.place;
      shifts = shifts t;
      size = G t;
      steps = steps_of vector_bytes g.D g.n g.S t;
    }
figures_by (suc number) answer g t = record { answer = answer.number; place = answer.place; shifts = 0; size = 0; steps = 0 }

abbrev pub figures : Answer → Graph → Tree → Figures
figures answer g t = figures_by answer.number answer g t

-- ---- a text

-- the sheet that it holds, in tables that are long enough
unfoldable pub sheet_in : (text : List ℕ) → WithSheet
sheet_in text = reading (take text_most text) (replicate head_entries 0) (replicate (row_entries * nodes_most) 0)

-- a section that is long enough
abbrev pub section : List ℕ
section = replicate (instruction_entries * section_most) 0

-- the loop placed by a rule: the answer of reading, else of the one-step call, and the placed tree
unfoldable pub placed_figures : WithSheet → (rule : ℕ) → Figures
placed_figures s rule =
    let g = graph_of s.head s.nodes in
    let call = planning vector_bytes rule s.head s.nodes window_most window_most section section section in
    figures (first (s.answer ∷ call.answer ∷ [])) g (place vector_bytes g.S rule (graph_tree g))

-- the loop as it is drawn: the answer of reading, else of translating, and the drawn tree
unfoldable pub drawn_figures : WithSheet → Figures
drawn_figures s =
    let g = graph_of s.head s.nodes in
    let call = translating vector_bytes s.head s.nodes window_most window_most section section section in
    figures (first (s.answer ∷ call.answer ∷ [])) g (graph_tree g)

-- the lines of the first so many rules
unfoldable pub placed_lines : WithSheet → (rules : ℕ) → List ℕ
placed_lines s zero = []
placed_lines s (suc rule) = placed_lines s rule ++ line rule (placed_figures s rule)

-- what `places` prints for a text
unfoldable pub printed : (text : List ℕ) → List ℕ
printed text = placed_lines (sheet_in text) 4

-- what `edges` prints before it: the same line for the graph as it is drawn, under FF
abbrev pub drawn_label : ℕ
drawn_label = 255

unfoldable pub drawn : (text : List ℕ) → List ℕ
drawn text = line drawn_label (drawn_figures (sheet_in text))
