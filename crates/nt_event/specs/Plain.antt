-- What stands for bytes inside a JSON string.
use Rattle.std.specs.Prelude.{ℕ, ◌≡◌, ◌≤◌, ◌<◌, List, [], ◌∷◌, length, drop, ⊤, Some}
use Rattle.json.specs.Lex.{lex, Mode, between, in_string}
use Rattle.json.specs.Text.{Within, content, plain, prepend}

-- a byte that stands for itself: not below 32, no quote and no backslash
pub record Plain (x : ℕ) : Type 0 where
  pub no_quote : x ≡ 34 → ⊥
  pub no_slash : x ≡ 92 → ⊥
  pub low : 32 ≤ x

-- all of them
abbrev pub AllPlain : List ℕ → Type 0
AllPlain [] = ⊤
AllPlain (x ∷ xs) = Plain x × AllPlain xs

-- inside a string, what stands from one place to another stands for these bytes
pub record StandsFor (s text : List ℕ) (at end : ℕ) : Type 0 where
  pub read : content plain (drop at text) ≡ prepend s (content plain (drop end text))
  pub lexed : lex in_string (drop at text) ≡ lex in_string (drop end text)
  pub past : at ≤ end

-- what stands from one place to another, of which a string's reader and a lexer have come so far, stands for these bytes
pub record EscapeStands (read_as : Within) (lexed_as : Mode) (s text : List ℕ) (at end : ℕ) : Type 0 where
  pub read : content read_as (drop at text) ≡ prepend s (content plain (drop end text))
  pub lexed : lex lexed_as (drop at text) ≡ lex in_string (drop end text)
  pub past : at < end
  pub within : end ≤ length text

-- inside a string, from one place to another stand these bytes and the closing quote
pub record EndsString (s text : List ℕ) (at end : ℕ) : Type 0 where
  pub read : content plain (drop at text) ≡ Some s
  pub lexed : lex in_string (drop at text) ≡ lex between (drop end text)
  pub past : at < end
  pub within : end ≤ length text
