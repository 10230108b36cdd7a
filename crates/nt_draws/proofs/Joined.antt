-- The line of an event, piece by piece.
use Rattle.std.proofs.Common.{◌≡◌, ℕ, zero, suc, ◌+◌, ◌-◌, ◌%◌, ◌<◌, Bool, true, false, List, [], ◌∷◌, ◌++◌, decimal}
use Rattle.std.proofs.Common.{ap, sym, ◌∙◌, arith, append_assoc, if◌then◌else◌}
use Rattle.std.specs.Str.{is_utf8}
use Rattle.std.proofs.lemmas.Fmt.{decimal_digit}
use Rattle.std.proofs.lemmas.Str.{is_utf8-from_IsUtf8, IsUtf8-from_ascii}
use Rattle.std.proofs.lemmas.Str.Ascii.{IsAscii-nil, IsAscii-cons}
use Rattle.json.specs.Print.{escape, escape_byte}
use Rattle.json.proofs.Printed.Strings.{escape_byte_plain}
use Rattle.serde_json.specs.Data.{string}
use Rattle.serde_json.specs.Written.{compact_text, comma_if}
use Rattle.nt_types.specs.TreeData.{trees_of}
use Rattle.nt_event.specs.Json.{text_data, hex_data, line_of}
use Rattle.nt_draws.specs.Draws.{drawn, after_draws}
use Rattle.nt_draws.specs.Events.{event_trees, drawn_ids, ids_count, after_event}
use Rattle.nt_draws.specs.Lines.{ids_text, made_line}

-- one draw, and the rest
after_draws-rest : (n s w : ℕ) → 0 < n → after_draws n s ≡ w → after_draws (n - 1) (drawn s) ≡ w
after_draws-rest zero s w some is = absurd (omega arith)
after_draws-rest (suc n) s w some is = let e : suc n - 1 ≡ n = omega arith in rw e is

pub after_draws-more : (n s t w : ℕ) → 0 < n → t ≡ drawn s → after_draws n s ≡ w → after_draws (n - 1) t ≡ w
after_draws-more n s t w some next is = ap (after_draws (n - 1)) next ∙ after_draws-rest n s w some is

-- one id, and the rest
ids_text-cons : (line more : List ℕ) (later : Bool) (id : ℕ) (ids w : List ℕ) → more ≡ line ++ (comma_if later ++ decimal id)
    → line ++ ids_text later (id ∷ ids) ≡ w → more ++ ids_text true ids ≡ w
ids_text-cons line more later id ids w grown is =
    ap (λ l. l ++ ids_text true ids) grown ∙ append_assoc line (comma_if later ++ decimal id) (ids_text true ids)
    ∙ ap (λ l. line ++ l) (append_assoc (comma_if later) (decimal id) (ids_text true ids)) ∙ is

ids_text-rest : (line more : List ℕ) (later : Bool) (n s : ℕ) (w : List ℕ) → 0 < n
    → more ≡ line ++ (comma_if later ++ decimal (drawn s % 1000000))
    → line ++ ids_text later (drawn_ids n s) ≡ w → more ++ ids_text true (drawn_ids (n - 1) (drawn s)) ≡ w
ids_text-rest line more later zero s w some grown is = absurd (omega arith)
ids_text-rest line more later (suc n) s w some grown is = let e : suc n - 1 ≡ n = omega arith in
    rw e (ids_text-cons line more later (drawn s % 1000000) (drawn_ids n (drawn s)) w grown is)

pub ids_text-more : (line more : List ℕ) (later : Bool) (n s t : ℕ) (w : List ℕ) → 0 < n → t ≡ drawn s
    → more ≡ line ++ (comma_if later ++ decimal (t % 1000000))
    → line ++ ids_text later (drawn_ids n s) ≡ w → more ++ ids_text true (drawn_ids (n - 1) t) ≡ w
ids_text-more line more later n s t w some next grown is =
    ap (λ x. more ++ ids_text true (drawn_ids (n - 1) x)) next
    ∙ ids_text-rest line more later n s w some (grown ∙ ap (λ x. line ++ (comma_if later ++ decimal (x % 1000000))) next) is

-- the text of a tag stands in a line as it is
tag_escape : (d : ℕ) → d < 10 → escape (116 ∷ (48 + d) ∷ []) ≡ 116 ∷ (48 + d) ∷ []
unfolding escape_byte
tag_escape d h =
    ap (λ l. 116 ∷ (l ++ []))
    (escape_byte_plain (48 + d) (λ e. absurd (omega arith)) (λ e. absurd (omega arith)) (omega arith))

tag_utf8 : (d : ℕ) → d < 10 → is_utf8 (116 ∷ (48 + d) ∷ []) ≡ true
tag_utf8 d h = is_utf8-from_IsUtf8 (116 ∷ (48 + d) ∷ []) (IsUtf8-from_ascii (116 ∷ (48 + d) ∷ [])
    (IsAscii-cons 116 ((48 + d) ∷ []) (omega arith) (IsAscii-cons (48 + d) [] (omega arith) IsAscii-nil)))

tag_digit : (d : ℕ) → d < 10 → compact_text (text_data (116 ∷ (48 + d) ∷ [])) ≡ 34 ∷ 116 ∷ (48 + d) ∷ 34 ∷ []
tag_digit d h = ap (λ b. compact_text (if b then string (116 ∷ (48 + d) ∷ []) else hex_data (116 ∷ (48 + d) ∷ []))) (tag_utf8 d h)
    ∙ ap (λ l. 34 ∷ (l ++ 34 ∷ [])) (tag_escape d h)

pub tag_text : (d : ℕ) → d < 10 → compact_text (text_data (116 ∷ decimal d)) ≡ 34 ∷ 116 ∷ (decimal d ++ 34 ∷ [])
tag_text d h = rw decimal_digit (tag_digit d h)

-- the pieces of a line in their order
joined : (R I D : List ℕ) → (((((91 ∷ R) ++ 44 ∷ 91 ∷ []) ++ I) ++ 44 ∷ 34 ∷ 116 ∷ []) ++ D) ++ 34 ∷ 93 ∷ 10 ∷ []
    ≡ (91 ∷ (R ++ 44 ∷ 91 ∷ (I ++ 44 ∷ 34 ∷ 116 ∷ ((D ++ 34 ∷ []) ++ 93 ∷ [])))) ++ 10 ∷ []
joined R I D = simp append_assoc

pub event_line-joined : (run d : ℕ) (ids : List ℕ) → d < 10
    → (((((91 ∷ decimal run) ++ 44 ∷ 91 ∷ []) ++ ids_text false ids) ++ 44 ∷ 34 ∷ 116 ∷ []) ++ decimal d) ++ 34 ∷ 93 ∷ 10 ∷ []
    ≡ line_of (trees_of (event_trees run ids d)) ++ 10 ∷ []
event_line-joined run d ids h = joined (decimal run) (ids_text false ids) (decimal d)
    ∙ ap (λ l. (91 ∷ (decimal run ++ 44 ∷ 91 ∷ (ids_text false ids ++ 44 ∷ (l ++ 93 ∷ [])))) ++ 10 ∷ []) (sym (tag_text d h))

-- what is put behind a line one by one
pub pieces_joined : (a b c d e f g R I D : List ℕ) → a ≡ [] ++ 91 ∷ [] → b ≡ a ++ R → c ≡ b ++ 44 ∷ 91 ∷ [] → d ≡ c ++ I
    → e ≡ d ++ 44 ∷ 34 ∷ 116 ∷ [] → f ≡ e ++ D → g ≡ f ++ 34 ∷ 93 ∷ 10 ∷ []
    → g ≡ (((((91 ∷ R) ++ 44 ∷ 91 ∷ []) ++ I) ++ 44 ∷ 34 ∷ 116 ∷ []) ++ D) ++ 34 ∷ 93 ∷ 10 ∷ []
pieces_joined a b c d e f g R I D ha hb hc hd he hf hg =
    hg ∙ ap (λ l. l ++ 34 ∷ 93 ∷ 10 ∷ []) (hf ∙ ap (λ l. l ++ D) (he ∙ ap (λ l. l ++ 44 ∷ 34 ∷ 116 ∷ []) (hd
    ∙ ap (λ l. l ++ I) (hc ∙ ap (λ l. l ++ 44 ∷ 91 ∷ []) (hb ∙ ap (λ l. l ++ R) ha)))))

-- the event of what was drawn one by one
pub event-drawn : (s run count last tag : ℕ) → run ≡ drawn s → count ≡ drawn run → last ≡ after_draws (count % 4) count → tag ≡ drawn last
    → line_of (trees_of (event_trees (run % 1000) (drawn_ids (count % 4) count) (tag % 10))) ++ 10 ∷ [] ≡ made_line s
event-drawn s run count last tag hr hc hl ht =
    let second : count ≡ drawn (drawn s) = hc ∙ ap drawn hr in
    let third : tag ≡ after_event s = ht ∙ ap drawn (hl ∙ ap (λ x. after_draws (x % 4) x) second) in
    ap (λ x. line_of (trees_of (event_trees (x % 1000) (drawn_ids (count % 4) count) (tag % 10))) ++ 10 ∷ []) hr
    ∙ ap (λ x. line_of (trees_of (event_trees (drawn s % 1000) (drawn_ids (x % 4) x) (tag % 10))) ++ 10 ∷ []) second
    ∙ ap (λ x. line_of (trees_of (event_trees (drawn s % 1000) (drawn_ids (ids_count s) (drawn (drawn s))) (x % 10))) ++ 10 ∷ []) third
