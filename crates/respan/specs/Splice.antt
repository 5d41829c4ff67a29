-- A row of spans changed at one place.
--     owned_of         a span with its object of the code, as it is one of a map
--     added            the spans that a splice adds: the new one, or none
--     spliced          its first a spans, then new ones, then those behind the b that are dropped
--     before           how many spans of a row come before a new one: those that end at its lo or below, up to the first that ends above
--     met              how many of the spans that follow it meets: those that start below its hi, up to the first that does not
--     low_end, high_end  where the new span and b spans of the row from span a on begin and end, as one: the first and the last of them have the lowest and the highest end
--     row_number        number q of a row as it stands in a table: how many spans, then the numbers of each with its object; 0 past them
--     number_at         number q of the row of dart d in a table of spans
--     respliced         the row that a splice makes of one
--     new_count         how many spans it has, of a row of so many
--     spliced_number    number q of a row whose first a spans are kept, whose next b are dropped, and to which spans xs come in their place, from the numbers of the old row
--     insertion        the splice that puts a span with its object in a row: those that it meets are dropped, and the one that they become with it is added
--     removal          the one that drops all of a row
--     Fits             a splice that may be made of a row of so many spans
use Rattle.std.specs.Prelude.{ℕ, suc, ◌+◌, ◌-◌, ◌*◌, ◌≤◌, true, false, cond, List, [], ◌∷◌, ◌++◌, length, get_or, take, drop, ℤ, pos, ◌==◌, int_lt, nat_lt, slice_index_or, unsigned_abs, None, Some}
use Rattle.paper.specs.Width.{span_limit, per_span, span_width}
use Rattle.paper.specs.Map.{Span, Owned, no_span, spans_of}
use Rattle.paper.specs.Join.{lower, higher}
use Rattle.paper.specs.Table.{numbers_of}
use Rattle.respan.specs.declared.splice.Owned as code
use Rattle.respan.specs.declared.splice.Splice.{Splice}

abbrev pub owned_of : code.Owned → Owned
owned_of x = record { span = record { lo = x.lo; hi = x.hi }; object = x.object }

abbrev pub added : Splice → List Owned
added s = elim s.new [ None ↦ [] | Some x ↦ owned_of x ∷ [] ]

abbrev pub spliced : {A : Type 0} → ℕ → ℕ → List A → List A → List A
spliced a b xs r = take a r ++ (xs ++ drop (a + b) r)

unfoldable pub before : ℤ → List Span → ℕ
before z [] = 0
before z (y ∷ r) = elim (int_lt z y.hi) [ true ↦ 0 | false ↦ suc (before z r) ]

unfoldable pub met : ℤ → List Span → ℕ
met z [] = 0
met z (y ∷ r) = elim (int_lt y.lo z) [ true ↦ suc (met z r) | false ↦ 0 ]

abbrev pub low_end : ℤ → ℕ → ℕ → List Owned → ℤ
low_end z a b r = cond (b == 0) z (lower (get_or r a no_span).span.lo z)

abbrev pub high_end : ℤ → ℕ → ℕ → List Owned → ℤ
high_end z a b r = cond (b == 0) z (higher (get_or r (a + b - 1) no_span).span.hi z)

unfoldable pub row_number : List Owned → ℕ → ℤ
row_number r q = slice_index_or (pos (length r) ∷ numbers_of r) q (pos 0)

abbrev pub number_at : List ℤ → ℕ → ℕ → ℤ
number_at ss d q = slice_index_or ss (d * span_width + q) (pos 0)

abbrev pub respliced : Splice → List Owned → List Owned
respliced s r = spliced s.kept s.dropped (added s) r

abbrev pub new_count : ℕ → Splice → ℕ
new_count c s = c - s.dropped + length (added s)

-- The numbers behind the dropped spans move to the new spans' end; behind the last span is 0, whatever stood there.
unfoldable pub spliced_number : (ℕ → ℤ) → ℕ → ℕ → List Owned → ℕ → ℤ
spliced_number g a b xs q =
    let many = unsigned_abs (g 0) - b + length xs in
    let head = 1 + a * per_span in
    let tail = head + length xs * per_span in
    let p = q - length xs * per_span + b * per_span in
    cond (q == 0) (pos many)
    (cond (nat_lt q head) (g q) (cond (nat_lt q tail) (slice_index_or (numbers_of xs) (q - head) (pos 0)) (cond (nat_lt q (1 + many * per_span)) (g p) (pos 0))))

abbrev pub insertion : Owned → List Owned → Splice
insertion x r =
    let a = before x.span.lo (spans_of r) in
    let b = met x.span.hi (drop a (spans_of r)) in
    record {
      kept = a;
      dropped = b;
      new = Some (record { lo = low_end x.span.lo a b r; hi = high_end x.span.hi a b r; object = x.object });
    }

abbrev pub removal : List Owned → Splice
removal r = record { kept = 0; dropped = length r; new = None }

pub record Fits (s : Splice) (c : ℕ) : Type 0 where
  -- it drops spans of the row
  pub within : s.kept + s.dropped ≤ c
  -- what is left is no longer than a row may be
  pub short : new_count c s ≤ span_limit
