-- An entry of a record (document 01, "The record"): a byte that tells its kind, and the body of that kind; and the causes that refuse it.
use Rattle.std.specs.Prelude.{ℕ, ◌+◌, Bool, true, false, cond, not, ◌&&◌, List, [], ◌∷◌, length, take, drop, replicate, ltb, eqb}
use Rattle.std.proofs.Math.Option.{Option, none, some}
use Rattle.series.specs.Units.{number, day_limit, flow_limit, missing_mark, within}
use Rattle.series.specs.Causes.{Cause, cause}
use Rattle.record.specs.declared.entry.Kind.{Kind}
use Rattle.record.specs.declared.entry.Kind.TheVariants.{Head, Flow, MissingDay, MissingDays, End}

-- the largest first day, as days since 1 January 1900
abbrev pub first_day_limit : ℕ
first_day_limit = 99999

-- the kind that a byte names (`Kind`, of src/entry.rt, has a variant for each); any other byte names none
unfoldable pub kind_of : ℕ → Option Kind
kind_of b =
    cond (eqb b 1) (some Head)
    (cond (eqb b 2) (some Flow)
    (cond (eqb b 3) (some MissingDay)
    (cond (eqb b 4) (some MissingDays)
    (cond (eqb b 9) (some End)
    none))))

-- tests of what a byte names
abbrev pub is_unknown : Option Kind → Bool
is_unknown none = true
is_unknown (some k) = false

abbrev pub is_head : Option Kind → Bool
is_head (some Head) = true
is_head _ = false

abbrev pub is_end : Option Kind → Bool
is_end (some End) = true
is_end _ = false

-- how many bytes its body has
abbrev pub body_length : Option Kind → ℕ
body_length (some Head) = 4
body_length (some Flow) = 4
body_length (some MissingDay) = 0
body_length (some MissingDays) = 2
body_length (some End) = 4
body_length none = 0

-- the value of its body is outside its range: first day, flow, count of missing days; the end count may be any
-- number, and a kind without a body has no value, as what is no kind
abbrev pub out_of_range : Option Kind → ℕ → Bool
out_of_range (some Head) v = not (within 0 first_day_limit v)
out_of_range (some Flow) v = not (within 0 flow_limit v)
out_of_range (some MissingDay) v = false
out_of_range (some MissingDays) v = not (within 1 65535 v)
out_of_range (some End) v = false
out_of_range none v = false

-- the days that it states, as they stand in the day list
abbrev pub days_of : Option Kind → ℕ → List ℕ
days_of (some Head) v = []
days_of (some Flow) v = v ∷ []
days_of (some MissingDay) v = missing_mark ∷ []
days_of (some MissingDays) v = replicate v missing_mark
days_of (some End) v = []
days_of none v = []

-- What stands at the front of bytes: a kind, its body (cut short where the bytes end inside it), and the bytes behind it.
pub record Entry : Type 0 where
  pub kind : Option Kind
  pub body : List ℕ
  pub behind : List ℕ

-- of bytes that begin with b
abbrev pub entry_of : ℕ → List ℕ → Entry
entry_of b bs = let k = kind_of b in record { kind = k; body = take (body_length k) bs; behind = drop (body_length k) bs }

-- its body's number, and the days that it states
abbrev pub value : Entry → ℕ
value e = number e.body

abbrev pub stated_days : Entry → List ℕ
stated_days e = days_of e.kind (value e)

-- a first entry that is not a head, or a later one that is
abbrev pub misplaced : Bool → Option Kind → Bool
misplaced true k = not (is_head k)
misplaced false k = is_head k

-- The causes that refuse an entry, in the order in which document 01 has them checked. `first` says that no entry stands
-- before it, n is the number of days before it, `room` the length of the day list.
unfoldable pub entry_causes : Bool → ℕ → ℕ → Entry → List Cause
entry_causes first n room e =
    cause (is_unknown e.kind) 2
    ∷ cause (misplaced first e.kind) 3
    ∷ cause (ltb (length e.body) (body_length e.kind)) 1
    ∷ cause (out_of_range e.kind (value e)) 4
    ∷ cause (ltb day_limit (n + length (days_of e.kind (value e)))) 5
    ∷ cause (ltb room (n + length (days_of e.kind (value e)))) 6
    ∷ cause (is_end e.kind && not (eqb (value e) n)) 7
    ∷ cause (is_end e.kind && ltb 0 (length e.behind)) 8
    ∷ []
