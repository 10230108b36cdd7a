-- Marks, words and strings, as the lexer finds them.
use Rattle.std.proofs.Common.{◌≡◌, ℕ, ◌≤◌, ◌<◌, List, [], ◌∷◌, length, drop, get_or, Bool, true, false, cond, Some, refl, sym, ap, ap₂, ◌∙◌}
use Rattle.std.proofs.Common.{arith, subst, inl, inr, ◌⊎◌, ◌+◌}
use Rattle.std.proofs.lemmas.Bool.{false≢true}
use Rattle.std.proofs.lemmas.List.{drop_more}
use Rattle.json.specs.Token.{begin_array, end_array, string, number, boolean, null, bad}
use Rattle.json.specs.Word.{ends_word, word}
use Rattle.json.specs.Text.{content, plain}
use Rattle.json.specs.Lex.{lex, between, in_string, token, string_token, Lexeme, Place, fresh, after_value, after_comma, after_key}
use Rattle.json.specs.Lex.{may_begin, begins_colon, punctuate}
use Rattle.json.specs.Json as json
use Rattle.json.specs.Print.{IsNumber}
use Rattle.json.proofs.Printed.Numbers.{lex-number, in_word-ended}
use Rattle.nt_event.specs.Standing.{StandsFrom, tokens_from, EndsValue, ValueStands, CommaStands, BlanksStand}

-- ---- marks

pub opens : (p : Place) (xs : List ℕ) → may_begin p ≡ true → tokens_from p (91 ∷ xs) ≡ begin_array ∷ tokens_from fresh xs
unfolding lex punctuate
opens fresh xs h = refl
opens after_comma xs h = refl
opens after_value xs h = absurd (false≢true h)
opens after_key xs h = absurd (false≢true h)

pub closes-fresh : (xs : List ℕ) → tokens_from fresh (93 ∷ xs) ≡ end_array ∷ tokens_from after_value xs
unfolding lex punctuate
closes-fresh xs = refl

pub closes-value : (xs : List ℕ) → tokens_from after_value (93 ∷ xs) ≡ end_array ∷ tokens_from after_value xs
unfolding lex punctuate
closes-value xs = refl

comma-value : (xs : List ℕ) → tokens_from after_value (44 ∷ xs) ≡ tokens_from after_comma xs
unfolding lex punctuate
comma-value xs = refl

comma-ends : (xs : List ℕ) → EndsValue (44 ∷ xs)
unfolding lex
comma-ends xs = record { word = refl; value = refl }

pub close-ends : (xs : List ℕ) → EndsValue (93 ∷ xs)
unfolding lex
close-ends xs = record { word = refl; value = refl }

pub ends-at : (t : List ℕ) (at end : ℕ) → StandsFrom (93 ∷ []) t at end → EndsValue (drop at t)
ends-at t at end h = subst EndsValue (sym h.part_is) (close-ends (drop end t))

pub comma-stands : (t : List ℕ) (at next end : ℕ) → StandsFrom (44 ∷ []) t at next → BlanksStand t next end → CommaStands t at end
comma-stands t at next end h b = record {
  told = ap (tokens_from after_value) h.part_is ∙ comma-value (drop next t) ∙ ap (punctuate after_comma) b.told;
  ends = subst EndsValue (sym h.part_is) (comma-ends (drop next t));
  within = b.within;
  some = omega (arith, h.some, b.past);
}

-- ---- blanks

blank-ends : (x : ℕ) (xs : List ℕ) → (x ≡ 32) ⊎ ((x ≡ 9) ⊎ (x ≡ 13)) → ends_word (x ∷ xs) ≡ true
blank-ends x xs (inl e) = rw e refl
blank-ends x xs (inr (inl e)) = rw e refl
blank-ends x xs (inr (inr e)) = rw e refl

blank-passed : (x : ℕ) (xs : List ℕ) → (x ≡ 32) ⊎ ((x ≡ 9) ⊎ (x ≡ 13)) → lex between (x ∷ xs) ≡ lex between xs
unfolding lex
blank-passed x xs (inl e) = rw e refl
blank-passed x xs (inr (inl e)) = rw e refl
blank-passed x xs (inr (inr e)) = rw e refl

pub no-blanks : (t : List ℕ) (at : ℕ) → at ≤ length t → BlanksStand t at at
no-blanks t at h = record { told = refl; word = λ e. e; within = h; past = omega arith }

pub one-blank : (t : List ℕ) (at i : ℕ) → BlanksStand t at i → i < length t
    → (get_or t i 0 ≡ 32) ⊎ ((get_or t i 0 ≡ 9) ⊎ (get_or t i 0 ≡ 13)) → BlanksStand t at (i + 1)
one-blank t at i b lt is =
    let next = drop_more t i 0 lt in
    record {
      told = b.told ∙ ap (lex between) next ∙ blank-passed (get_or t i 0) (drop (i + 1) t) is;
      word = λ e. b.word (ap ends_word next ∙ blank-ends (get_or t i 0) (drop (i + 1) t) is);
      within = omega (arith, lt);
      past = omega (arith, b.past);
    }

-- ---- words

number-token : (p : Place) (s : List ℕ) (ls : List Lexeme) → may_begin p ≡ true
    → punctuate p (token (number s) ∷ ls) ≡ number s ∷ punctuate after_value ls
unfolding punctuate
number-token fresh s ls h = refl
number-token after_comma s ls h = refl
number-token after_value s ls h = absurd (false≢true h)
number-token after_key s ls h = absurd (false≢true h)

truth-token : (p : Place) (b : Bool) (ls : List Lexeme) → may_begin p ≡ true
    → punctuate p (token (boolean b) ∷ ls) ≡ boolean b ∷ punctuate after_value ls
unfolding punctuate
truth-token fresh b ls h = refl
truth-token after_comma b ls h = refl
truth-token after_value b ls h = absurd (false≢true h)
truth-token after_key b ls h = absurd (false≢true h)

null-token : (p : Place) (ls : List Lexeme) → may_begin p ≡ true → punctuate p (token null ∷ ls) ≡ null ∷ punctuate after_value ls
unfolding punctuate
null-token fresh ls h = refl
null-token after_comma ls h = refl
null-token after_value ls h = absurd (false≢true h)
null-token after_key ls h = absurd (false≢true h)

string-token : (p : Place) (s : List ℕ) (ls : List Lexeme) → may_begin p ≡ true → begins_colon ls ≡ false
    → punctuate p (token (string s) ∷ ls) ≡ string s ∷ punctuate after_value ls
unfolding punctuate
string-token fresh s ls h c = rw c refl
string-token after_comma s ls h c = rw c refl
string-token after_value s ls h c = absurd (false≢true h)
string-token after_key s ls h c = absurd (false≢true h)

lex-true : (r : List ℕ) → ends_word r ≡ true → lex between (116 ∷ 114 ∷ 117 ∷ 101 ∷ r) ≡ token (boolean true) ∷ lex between r
unfolding lex word
lex-true r h = ap₂ (λ b l. token (cond b (boolean true) bad) ∷ l) h (in_word-ended r h)

lex-false : (r : List ℕ) → ends_word r ≡ true → lex between (102 ∷ 97 ∷ 108 ∷ 115 ∷ 101 ∷ r) ≡ token (boolean false) ∷ lex between r
unfolding lex word
lex-false r h = ap₂ (λ b l. token (cond b (boolean false) bad) ∷ l) h (in_word-ended r h)

lex-null : (r : List ℕ) → ends_word r ≡ true → lex between (110 ∷ 117 ∷ 108 ∷ 108 ∷ r) ≡ token null ∷ lex between r
unfolding lex word
lex-null r h = ap₂ (λ b l. token (cond b null bad) ∷ l) h (in_word-ended r h)

pub number-stands : (s t : List ℕ) (at end : ℕ) → IsNumber s → StandsFrom s t at end → ValueStands (json.number s) t at end
number-stands s t at end n h = record {
  told = λ p b e. ap (tokens_from p) h.part_is ∙ ap (punctuate p) (lex-number s (drop end t) n e.word)
      ∙ number-token p s (lex between (drop end t)) b;
  within = h.within;
  some = h.some;
}

pub true-stands : (t : List ℕ) (at end : ℕ) → StandsFrom (116 ∷ 114 ∷ 117 ∷ 101 ∷ []) t at end → ValueStands (json.boolean true) t at end
true-stands t at end h = record {
  told = λ p b e. ap (tokens_from p) h.part_is ∙ ap (punctuate p) (lex-true (drop end t) e.word)
      ∙ truth-token p true (lex between (drop end t)) b;
  within = h.within;
  some = h.some;
}

pub false-stands : (t : List ℕ) (at end : ℕ) → StandsFrom (102 ∷ 97 ∷ 108 ∷ 115 ∷ 101 ∷ []) t at end
    → ValueStands (json.boolean false) t at end
false-stands t at end h = record {
  told = λ p b e. ap (tokens_from p) h.part_is ∙ ap (punctuate p) (lex-false (drop end t) e.word)
      ∙ truth-token p false (lex between (drop end t)) b;
  within = h.within;
  some = h.some;
}

pub null-stands : (t : List ℕ) (at end : ℕ) → StandsFrom (110 ∷ 117 ∷ 108 ∷ 108 ∷ []) t at end → ValueStands json.null t at end
null-stands t at end h = record {
  told = λ p b e. ap (tokens_from p) h.part_is ∙ ap (punctuate p) (lex-null (drop end t) e.word)
      ∙ null-token p (lex between (drop end t)) b;
  within = h.within;
  some = h.some;
}

-- ---- strings

lex-string : (s xs : List ℕ) → content plain xs ≡ Some s → lex between (34 ∷ xs) ≡ token (string s) ∷ lex in_string xs
unfolding lex
lex-string s xs h = ap (λ o. token (string_token o) ∷ lex in_string xs) h

pub string-stands : (s t : List ℕ) (at first end : ℕ) → StandsFrom (34 ∷ []) t at first → content plain (drop first t) ≡ Some s
    → lex in_string (drop first t) ≡ lex between (drop end t)
    → first < end → end ≤ length t → ValueStands (json.string s) t at end
string-stands s t at first end opens is passed some within = record {
  told = λ p b e.
      ap (tokens_from p) opens.part_is ∙ ap (punctuate p) (lex-string s (drop first t) is ∙ ap (λ l. token (string s) ∷ l) passed)
      ∙ string-token p s (lex between (drop end t)) b e.value;
  within = within;
  some = omega (arith, some, opens.some);
}
