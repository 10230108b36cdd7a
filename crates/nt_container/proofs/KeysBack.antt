-- Keys and the list of them are read back.
use Rattle.std.proofs.Common.{◌≡◌, ℕ, ◌+◌, ◌<◌, ◌^◌, true, ltb, List, [], ◌∷◌, length, refl, arith, codes}
use Rattle.std.specs.List.{concat}
use Rattle.std.specs.Int.{w16, w32, w64, to_be_bytes}
use Rattle.nt_format.specs.Reading.{ReadsAs}
use Rattle.nt_num.specs.Cursor.{big}
use Rattle.nt_container.specs.declared.parts.Key.{Key}
use Rattle.nt_container.specs.declared.parts.Sizes.{Sizes}
use Rattle.nt_container.specs.Words.{place_at, tstring_at, short_tstring}
use Rattle.nt_container.specs.Keys.{anchor_class, sizes_at, key_names_at, key_at}
use Rattle.nt_container.specs.Spelling.{key_header_len, key_sizes, key_names, key_header, file_key, anchor_key}
use Rattle.nt_format.proofs.Chains.{spread, total, of_parts}
use Rattle.nt_container.proofs.Words.{word_16, word_32, wide_place, short_text}

sizes-chain : (a b c d e f : List ℕ) (len version object_len time header_len cycle : ℕ) → ReadsAs (big w32) a len
    → ReadsAs (big w16) b version
    → ReadsAs (big w32) c object_len → ReadsAs (big w32) d time → ReadsAs (big w16) e header_len → ReadsAs (big w16) f cycle
    → ReadsAs sizes_at (concat (a ∷ b ∷ c ∷ d ∷ e ∷ f ∷ [])) (record {
      len = len;
      version = version;
      object_len = object_len;
      header_len = header_len;
    })
unfolding sizes_at
sizes-chain a b c d e f len version object_len time header_len cycle p q r s t u =
    of_parts sizes_at (a ∷ b ∷ c ∷ d ∷ e ∷ f ∷ []) (record {
      len = len;
      version = version;
      object_len = object_len;
      header_len = header_len;
    }) λ place rest.
    rw (
      p place (spread (b ∷ c ∷ d ∷ e ∷ f ∷ []) rest),
      q (total place (a ∷ [])) (spread (c ∷ d ∷ e ∷ f ∷ []) rest),
      r (total place (a ∷ b ∷ [])) (spread (d ∷ e ∷ f ∷ []) rest),
      s (total place (a ∷ b ∷ c ∷ [])) (spread (e ∷ f ∷ []) rest),
      t (total place (a ∷ b ∷ c ∷ d ∷ [])) (spread (f ∷ []) rest),
      u (total place (a ∷ b ∷ c ∷ d ∷ e ∷ [])) rest,
    ) refl

sizes_read : (header_len object_len : ℕ) → header_len < 2 ^ 16 → header_len + object_len < 2 ^ 32
    → ReadsAs sizes_at (key_sizes header_len object_len) (record {
      len = header_len + object_len;
      version = 1004;
      object_len = object_len;
      header_len = header_len;
    })
unfolding key_sizes
sizes_read header_len object_len short fits =
    sizes-chain (to_be_bytes w32 (header_len + object_len)) (to_be_bytes w16 1004) (to_be_bytes w32 object_len)
    (to_be_bytes w32 0x00420000) (to_be_bytes w16 header_len) (to_be_bytes w16 1)
    (header_len + object_len) 1004 object_len 0x00420000 header_len 1
    (word_32 (header_len + object_len) fits) (word_16 1004 (omega arith)) (word_32 object_len (omega arith))
    (word_32 0x00420000 (omega arith)) (word_16 header_len short) (word_16 1 (omega arith))

names-chain : (a b c d e : List ℕ) (place directory : ℕ) (class name title : List ℕ) → ReadsAs (place_at true) a place
    → ReadsAs (place_at true) b directory
    → ReadsAs tstring_at c class → ReadsAs tstring_at d name → ReadsAs tstring_at e title
    → ReadsAs (key_names_at true) (concat (a ∷ b ∷ c ∷ d ∷ e ∷ [])) (place, class)
unfolding key_names_at
names-chain a b c d e at directory class name title p q r s t =
    of_parts (key_names_at true) (a ∷ b ∷ c ∷ d ∷ e ∷ []) (at, class) λ place rest.
    rw (
      p place (spread (b ∷ c ∷ d ∷ e ∷ []) rest),
      q (total place (a ∷ [])) (spread (c ∷ d ∷ e ∷ []) rest),
      r (total place (a ∷ b ∷ [])) (spread (d ∷ e ∷ []) rest),
      s (total place (a ∷ b ∷ c ∷ [])) (spread (e ∷ []) rest),
      t (total place (a ∷ b ∷ c ∷ d ∷ [])) rest,
    ) refl

names_read : (at directory : ℕ) (class name : List ℕ) → at < 2 ^ 64 → directory < 2 ^ 64 → length class < 255 → length name < 255
    → ReadsAs (key_names_at true) (key_names at directory class name) (at, class)
unfolding key_names
names_read at directory class name small smaller short shorter =
    names-chain (to_be_bytes w64 at) (to_be_bytes w64 directory) (short_tstring class) (short_tstring name) (short_tstring []) at
    directory class name []
    (wide_place at small) (wide_place directory smaller) (short_text class short) (short_text name shorter) (short_text [] (omega arith))

key-chain : (a b : List ℕ) (sizes : Sizes) (place : ℕ) (class : List ℕ) → ReadsAs sizes_at a sizes → ltb 1000 sizes.version ≡ true
    → ReadsAs (key_names_at true) b (place, class)
    → ReadsAs key_at (concat (a ∷ b ∷ [])) (
      record {
        len = sizes.len;
        object_len = sizes.object_len;
        header_len = sizes.header_len;
        place = place;
      },
      class,
    )
unfolding key_at
key-chain a b sizes at class p wide q =
    of_parts key_at (a ∷ b ∷ []) (
      record {
        len = sizes.len;
        object_len = sizes.object_len;
        header_len = sizes.header_len;
        place = at;
      },
      class,
    ) λ place rest.
    rw (
      p place (spread (b ∷ []) rest),
      wide,
      q (total place (a ∷ [])) rest,
    ) refl

-- the key that a header is read as
abbrev pub key_of : ℕ → ℕ → ℕ → Key
key_of header_len object_len at = record { len = header_len + object_len; object_len = object_len; header_len = header_len; place = at }

pub key_reads : (object_len at directory : ℕ) (class name : List ℕ) → object_len < 2 ^ 31 → at < 2 ^ 64 → directory < 2 ^ 64
    → length class < 255 → length name < 255
    → ReadsAs key_at (key_header object_len at directory class name) (key_of (key_header_len class name) object_len at, class)
unfolding key_header
key_reads object_len at directory class name fits small smaller short shorter =
    key-chain (key_sizes (key_header_len class name) object_len) (key_names at directory class name)
    (record {
      len = key_header_len class name + object_len;
      version = 1004;
      object_len = object_len;
      header_len = key_header_len class name;
    }) at class
    (sizes_read (key_header_len class name) object_len (omega arith) (omega arith)) refl
    (names_read at directory class name small smaller short shorter)

pub anchor_key_reads : (at : ℕ) → at < 2 ^ 64 → ReadsAs key_at (anchor_key at) (key_of 56 78 at, anchor_class)
unfolding anchor_key
anchor_key_reads at small = key_reads 78 at 100 anchor_class (codes "events") (omega arith) small (omega arith) (omega arith) (omega arith)

pub file_key_reads : (object_len at directory : ℕ) → object_len < 2 ^ 31 → at < 2 ^ 64 → directory < 2 ^ 64
    → ReadsAs key_at (file_key object_len at directory) (key_of 53 object_len at, codes "TFile")
unfolding file_key
file_key_reads object_len at directory fits small smaller =
    key_reads object_len at directory (codes "TFile") (codes "events.root") fits small smaller (omega arith) (omega arith)
