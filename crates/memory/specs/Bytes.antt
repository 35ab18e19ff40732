-- Words as they lie in bytes.
use Rattle.std.specs.Prelude.{ℕ, ◌+◌, ◌*◌, ◌/◌, List, [], ◌∷◌, map, length, take, drop}
use Rattle.std.specs.List.{range_with_len}
use Rattle.memory.specs.Words.{shown, shown_length}

-- the number that the bytes spell, the lowest first
unfoldable pub little_endian : List ℕ → ℕ
little_endian [] = 0
little_endian (b ∷ bs) = b + 256 * little_endian bs

-- the word at the index i: eight bytes
abbrev pub word_at : List ℕ → ℕ → ℕ
word_at bs i = little_endian (take 8 (drop (8 * i) bs))

-- the whole words that the bytes hold, in order
abbrev pub words_of : List ℕ → List ℕ
words_of bs = map (word_at bs) (range_with_len 0 (length bs / 8))

-- the words of the bytes that are shown
abbrev pub shown_words : List ℕ → List ℕ
shown_words bs = shown (words_of bs)

-- the bytes past those words
abbrev pub unshown_bytes : List ℕ → List ℕ
unshown_bytes bs = drop (8 * shown_length (length bs / 8)) bs
