-- What a write that was cut short leaves of a file.
use Rattle.std.proofs.Common.{◌≡◌, ◌<◌, ◌≤◌, ◌+◌, ◌-◌, ℕ, min, max, List, ◌++◌, length, take, drop, replicate, ap, sym, ◌∙◌, append_assoc, refl, arith, ◌⊎◌, inl, inr}
use Rattle.std.proofs.lemmas.List.{length-take-le, length-append, length-replicate, length-drop, length-take, take_at, take-take, drop_at, drop_all, drop-take, take-append-le}
use Rattle.std.proofs.lemmas.Bool.{cases_lt}
use Rattle.ap_disk.specs.Crashes.{Torn}
use Rattle.ap_disk.specs.Calls.{with_bytes_at}

-- the bytes with the range from begin to end filled
abbrev pub filled : List ℕ → ℕ → ℕ → ℕ → List ℕ
filled room begin end fill = take begin room ++ replicate (end - begin) fill ++ drop end room

filled-length : (room : List ℕ) (begin end fill : ℕ) → begin ≤ end → end ≤ length room → length (filled room begin end fill) ≡ length room
filled-length room begin end fill order inside = grind (arith, length-append, length-replicate, length-drop, length-take)

filled-front : (room : List ℕ) (begin end fill : ℕ) → begin ≤ end → end ≤ length room → take begin (filled room begin end fill) ≡ take begin room
filled-front room begin end fill order inside =
    rw (append_assoc (take begin room) (replicate (end - begin) fill) (drop end room))
    (take_at (take begin room) (replicate (end - begin) fill ++ drop end room) begin (length-take-le begin room (omega (arith, order, inside))))

filled-back : (room : List ℕ) (begin end fill : ℕ) → begin ≤ end → end ≤ length room → drop end (filled room begin end fill) ≡ drop end room
filled-back room begin end fill order inside =
    drop_at (take begin room ++ replicate (end - begin) fill) (drop end room) end
    (grind (arith, length-append, length-replicate, length-take))

before : (room : List ℕ) (begin end fill len m : ℕ) → begin ≤ end → end ≤ length room → begin ≤ len → begin ≤ m →
    take begin (take m (filled room begin end fill)) ≡ take begin (take len room)
before room begin end fill len m order inside low high =
    take-take begin m (filled room begin end fill) high ∙ filled-front room begin end fill order inside ∙ sym (take-take begin len room low)

behind_short : (room : List ℕ) (begin end fill len : ℕ) → begin ≤ end → end ≤ length room → len ≤ end →
    drop end (take end (filled room begin end fill)) ≡ drop end (take len room)
behind_short room begin end fill len order inside short =
    drop_all end (take end (filled room begin end fill)) (grind (arith, length-take))
    ∙ sym (drop_all end (take len room) (grind (arith, length-take)))

behind_long : (room : List ℕ) (begin end fill len m : ℕ) → begin ≤ end → end ≤ length room → end + m ≡ len →
    drop end (take len (filled room begin end fill)) ≡ drop end (take len room)
behind_long room begin end fill len m order inside long =
    rw (sym long)
    (drop-take end m (filled room begin end fill) ∙ ap (λ (l : List ℕ). take m l) (filled-back room begin end fill order inside) ∙ sym (drop-take end m room))

behind : (room : List ℕ) (begin end fill len m : ℕ) → begin ≤ end → end ≤ length room → m ≡ max len end → (len < end) ⊎ (end ≤ len) →
    drop end (take m (filled room begin end fill)) ≡ drop end (take len room)
behind room begin end fill len m order inside is (inl short) =
    let e : m ≡ end = omega (arith, is, short) in
    rw e (behind_short room begin end fill len order inside (omega (arith, short)))
behind room begin end fill len m order inside is (inr long) =
    let e : m ≡ len = omega (arith, is, long) in
    rw e (behind_long room begin end fill len (len - end) order inside (omega (arith, long)))

pub torn_at : (room : List ℕ) (len at count fill begin m : ℕ) → len ≤ length room → at + count ≤ length room → begin ≡ min at len → m ≡ max len (at + count) →
    Torn at count (take len room) (take m (filled room begin (at + count) fill))
torn_at room len at count fill begin m in_len in_room first last =
    let end = at + count in
    let order : begin ≤ end = omega (arith, first) in
    let file : length (take len room) ≡ len = length-take-le len room in_len in
    let after : length (take m (filled room begin end fill)) ≡ m =
    length-take-le m (filled room begin end fill) (rw (filled-length room begin end fill order in_room) (omega (arith, in_len, in_room, last))) in
    let front : min at (length (take len room)) ≡ begin = omega (arith, file, first) in
    record {
      before = rw front (before room begin end fill len m order in_room (omega (arith, first)) (omega (arith, first, last)));
      behind = behind room begin end fill len m order in_room last (cases_lt len end);
      no_shorter = rw (file, after) (omega (arith, last));
      no_longer = rw (file, after) (omega (arith, last));
    }

-- a range that is filled, and the gap before it
pub torn_fill : (room : List ℕ) (len at count fill : ℕ) → len ≤ length room → at + count ≤ length room →
    Torn at count (take len room) (take (max len (at + count)) (filled room (min at len) (at + count) fill))
torn_fill room len at count fill in_len in_room = torn_at room len at count fill _ _ in_len in_room refl refl

whole-length : (at : ℕ) (bytes old : List ℕ) → length (with_bytes_at old at bytes) ≡ max (length old) (at + length bytes)
whole-length at bytes old = grind (arith, length-append, length-replicate, length-drop, length-take)

whole-front : (at m : ℕ) (bytes old : List ℕ) → m ≡ min at (length old) → take m (with_bytes_at old at bytes) ≡ take m old
whole-front at m bytes old is =
    let a : List ℕ = take at old in
    let gap : List ℕ = replicate (at - length old) 0 in
    let rest : List ℕ = drop (at + length bytes) old in
    take-append-le m (a ++ gap ++ bytes) rest (grind (arith, is, length-append, length-take))
    ∙ take-append-le m (a ++ gap) bytes (grind (arith, is, length-append, length-take))
    ∙ take-append-le m a gap (grind (arith, is, length-take))
    ∙ take-take m at old (omega (arith, is))

whole-back : (at : ℕ) (bytes old : List ℕ) → drop (at + length bytes) (with_bytes_at old at bytes) ≡ drop (at + length bytes) old
whole-back at bytes old =
    drop_at (take at old ++ replicate (at - length old) 0 ++ bytes) (drop (at + length bytes) old) (at + length bytes)
    (grind (arith, length-append, length-replicate, length-take))

-- a write that came to its end
pub torn_whole : (at : ℕ) (bytes old : List ℕ) → Torn at (length bytes) old (with_bytes_at old at bytes)
torn_whole at bytes old = record {
  before = whole-front at _ bytes old refl;
  behind = whole-back at bytes old;
  no_shorter = rw (whole-length at bytes old) (omega arith);
  no_longer = rw (whole-length at bytes old) (omega arith);
}

-- a write of which nothing came
pub torn_nothing : (at count : ℕ) (old : List ℕ) → Torn at count old old
torn_nothing at count old = record { before = refl; behind = refl; no_shorter = omega arith; no_longer = omega arith }
