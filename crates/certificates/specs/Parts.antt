-- A line as its kind, its numbers, and the two sparse lists that some lines end with.
--   Sparse               positions and values
--   Rest                 what stands behind the first word: numbers, and perhaps two lists
--   Parts                a kind with the rest
--   numbered, listed     the parts of a line with these numbers, without lists and with two
--   kind_text kind       the first word of a line of this kind
--   parts_text parts     the text of a line with these parts
--   parts_of line        the parts of a line, if it has the form of one
-- and as steps of these
--   entry, sparse_tokens, lists_tokens, rest_tokens, parts_words     the text in words
--   kinds, kind_from, kind_of_word                                   the kind that a first word tells
--   entries_of, last_of, left_of, lists_of, rest_of, parts_from      the words read
use Rattle.std.specs.Prelude.{ℕ, List, [], ◌∷◌, ◌++◌, map, if◌then◌else◌, Option, Some, None, option_and_then, bytes_eq, codes}
use Rattle.std.specs.List.{join_with_byte}
use Rattle.certificates.specs.declared.kind.Kind.{Kind}
use Rattle.certificates.specs.declared.kind.Kind.TheVariants as kind
use Rattle.certificates.specs.declared.token.Token.{Token}
use Rattle.certificates.specs.declared.token.Token.TheVariants.{Number, Entry, Dash, Bar}
use Rattle.certificates.specs.Tokens.{token_text, tokens_of, words_of}

abbrev pub Sparse : Type 0
Sparse = List (ℕ × ℕ)

pub record Rest : Type 0 where
  pub numbers : List ℕ
  pub lists : Option (Sparse × Sparse)

pub record Parts : Type 0 where
  pub kind : Kind
  pub rest : Rest

abbrev pub numbered : Kind → List ℕ → Parts
numbered k ns = record { kind = k; rest = record { numbers = ns; lists = None } }

abbrev pub listed : Kind → List ℕ → Sparse → Sparse → Parts
listed k ns left right = record { kind = k; rest = record { numbers = ns; lists = Some (left, right) } }

-- ---- the text

abbrev pub kind_text : Kind → List ℕ
kind_text kind.Version = codes "hap-certificate"
kind_text kind.Modulus = codes "modulus"
kind_text kind.Cells = codes "cells"
kind_text kind.Face = codes "face"
kind_text kind.Chains = codes "chains"
kind_text kind.Rank = codes "rank"
kind_text kind.RankLine = codes "r"
kind_text kind.Classes = codes "classes"
kind_text kind.ClassLine = codes "z"
kind_text kind.Products = codes "products"
kind_text kind.ProductLine = codes "p"
kind_text kind.Pairs = codes "pairs"
kind_text kind.PairLine = codes "pair"
kind_text kind.Critical = codes "critical"
kind_text kind.Components = codes "components"
kind_text kind.Columns = codes "columns"
kind_text kind.Covers = codes "covers"
kind_text kind.Done = codes "done"
kind_text kind.End = codes "end"

abbrev pub entry : ℕ × ℕ → Token
entry e = Entry e.0 e.1

-- `-` for the empty list
abbrev pub sparse_tokens : Sparse → List Token
sparse_tokens [] = Dash ∷ []
sparse_tokens (e ∷ es) = map entry (e ∷ es)

abbrev pub lists_tokens : Option (Sparse × Sparse) → List Token
lists_tokens None = []
lists_tokens (Some s) = sparse_tokens s.0 ++ Bar ∷ sparse_tokens s.1

abbrev pub rest_tokens : Rest → List Token
rest_tokens r = map Number r.numbers ++ lists_tokens r.lists

abbrev pub parts_words : Parts → List (List ℕ)
parts_words p = kind_text p.kind ∷ map token_text (rest_tokens p.rest)

abbrev pub parts_text : Parts → List ℕ
parts_text p = join_with_byte 32 (parts_words p)

-- ---- the reading

abbrev pub kinds : List Kind
kinds =
    kind.Version ∷ kind.Modulus ∷ kind.Cells ∷ kind.Face ∷ kind.Chains ∷ kind.Rank ∷ kind.RankLine ∷ kind.Classes ∷ kind.ClassLine ∷ kind.Products
    ∷ kind.ProductLine ∷ kind.Pairs ∷ kind.PairLine ∷ kind.Critical ∷ kind.Components ∷ kind.Columns ∷ kind.Covers ∷ kind.Done ∷ kind.End ∷ []

abbrev pub kind_from : List Kind → List ℕ → Option Kind
kind_from [] word = None
kind_from (k ∷ ks) word = if bytes_eq (kind_text k) word then Some k else kind_from ks word

abbrev pub kind_of_word : List ℕ → Option Kind
kind_of_word word = kind_from kinds word

abbrev pub entries_of : List Token → Option Sparse
entries_of [] = Some []
entries_of (Entry p v ∷ ts) = option_and_then (λ es. Some ((p, v) ∷ es)) (entries_of ts)
entries_of (t ∷ ts) = None

-- the list at the end of a line
abbrev pub last_of : List Token → Option Sparse
last_of (Dash ∷ []) = Some []
last_of (Entry p v ∷ ts) = option_and_then (λ es. Some ((p, v) ∷ es)) (entries_of ts)
last_of ts = None

-- further entries of the first list, `|`, and the list at the end
abbrev pub left_of : List Token → Option (Sparse × Sparse)
left_of [] = None
left_of (Entry p v ∷ ts) = option_and_then (λ s. Some ((p, v) ∷ s.0, s.1)) (left_of ts)
left_of (Bar ∷ ts) = option_and_then (λ right. Some ([], right)) (last_of ts)
left_of (t ∷ ts) = None

abbrev pub lists_of : List Token → Option (Sparse × Sparse)
lists_of (Dash ∷ Bar ∷ ts) = option_and_then (λ right. Some ([], right)) (last_of ts)
lists_of (Entry p v ∷ ts) = option_and_then (λ s. Some ((p, v) ∷ s.0, s.1)) (left_of ts)
lists_of ts = None

abbrev pub rest_of : List Token → Option Rest
rest_of [] = Some (record { numbers = []; lists = None })
rest_of (Number n ∷ ts) = option_and_then (λ r. Some (record { numbers = n ∷ r.numbers; lists = r.lists })) (rest_of ts)
rest_of (t ∷ ts) = option_and_then (λ s. Some (record { numbers = []; lists = Some s })) (lists_of (t ∷ ts))

abbrev pub parts_from : List (List ℕ) → Option Parts
parts_from [] = None
parts_from (word ∷ words) = option_and_then (λ k. option_and_then (λ ts. option_and_then (λ r. Some (record { kind = k; rest = r })) (rest_of ts)) (tokens_of words)) (kind_of_word word)

abbrev pub parts_of : List ℕ → Option Parts
parts_of line = parts_from (words_of line)
