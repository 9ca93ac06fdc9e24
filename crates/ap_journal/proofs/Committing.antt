-- What the steps of a commit and of an opening leave of a file.
use Rattle.std.proofs.Common.{◌≡◌, ℕ, suc, ◌+◌, ◌^◌, ◌≤◌, ◌<◌, ◌⊎◌, inl, inr, true, List, [], ◌∷◌, ◌++◌, length, take, drop, codes, refl, sym, ◌∙◌, ap, subst, arith, append_assoc, length-append, take-append-drop}
use Rattle.std.proofs.lemmas.List.{take_at, drop_at, append-nil, length-drop}
use Rattle.std.proofs.lemmas.Bool.{cases_eq}
use Rattle.std.proofs.lemmas.Nat.{from_be_bytes-to_be_bytes_4}
use Rattle.std.specs.Int.{w32, from_be_bytes, to_be_bytes}
use Rattle.ap_disk.specs.Crashes.{Shortened}
use Rattle.ap_journal.specs.Changes.{Extends, with_byte, HasSomeByteAt, frame}
use Rattle.ap_journal.specs.Records.{with_others, records, standing, size_of, end_of, is_marked, IsStoreOf, IsSameStore, IsAtRest}
use Rattle.ap_journal.proofs.Standing.{IsRun, run_size, run_and_one, closed_gate, too_short, unfolded, first_of_whole}
use Rattle.ap_journal.proofs.Laid.{Laid, Parts, parts, stands, marked_as, nothing_stands, same_header, same_where_none, good_header}

-- a file that ends with a closed gate behind whole records, under a marked header
laid_at_rest : (file header run : List ℕ) (payloads : List (List ℕ)) → Laid file header run payloads (0 ∷ []) → is_marked header ≡ true → IsAtRest file × (standing file ≡ payloads)
laid_at_rest file header run payloads laid mark =
    let are : standing file ≡ payloads = stands file header run payloads 0 [] laid ∙ ap (λ (l : List (List ℕ)). payloads ++ l) (too_short (0 ∷ []) (omega arith)) ∙ append-nil payloads in
    let end : length (header ++ run) ≡ end_of file = length-append header run ∙ ap (λ (n : ℕ). n + length run) laid.long ∙ ap (λ (n : ℕ). 16 + n) (run_size payloads run laid.whole ∙ ap size_of (sym are)) in
    let both : file ≡ (header ++ run) ++ 0 ∷ [] = laid.is ∙ sym (append_assoc header run (0 ∷ [])) in
    (record { closed = ap (drop (end_of file)) both ∙ drop_at (header ++ run) (0 ∷ []) (end_of file) end; marked = marked_as file header run payloads (0 ∷ []) laid ∙ mark }, are)

-- four bytes
four : (l : List ℕ) → length l ≡ 4 → (a : ℕ) × (b : ℕ) × (c : ℕ) × (d : ℕ) × (l ≡ a ∷ b ∷ c ∷ d ∷ [])
four [] is = absurd (omega (arith, is))
four (a ∷ []) is = absurd (omega (arith, is))
four (a ∷ b ∷ []) is = absurd (omega (arith, is))
four (a ∷ b ∷ c ∷ []) is = absurd (omega (arith, is))
four (a ∷ b ∷ c ∷ d ∷ []) is = (a, b, c, d, refl)
four (a ∷ b ∷ c ∷ d ∷ e ∷ l) is = absurd (omega (arith, is))

-- the record of a frame behind an open gate
pub record Framed (payload : List ℕ) : Type 0 where
  pub a : ℕ
  pub b : ℕ
  pub c : ℕ
  pub d : ℕ
  pub is : frame payload ≡ a ∷ b ∷ c ∷ d ∷ (payload ++ 0 ∷ [])
  pub count : from_be_bytes w32 (a ∷ b ∷ c ∷ d ∷ []) ≡ length payload

framed : (payload : List ℕ) → length payload < 2 ^ 32 → Framed payload
framed payload fits =
    let bytes = four (to_be_bytes w32 (length payload)) refl in
    record {
      a = bytes.0;
      b = bytes.1;
      c = bytes.2;
      d = bytes.3;
      is = ap (λ (l : List ℕ). l ++ (payload ++ 0 ∷ [])) bytes.4;
      count = ap (from_be_bytes w32) (sym bytes.4) ∙ from_be_bytes-to_be_bytes_4 (length payload) fits;
    }

opened : (payload : List ℕ) (f : Framed payload) → records (1 ∷ frame payload) ≡ payload ∷ []
opened payload f =
    ap (λ (l : List ℕ). records (1 ∷ l)) f.is
    ∙ unfolded (1 ∷ f.a ∷ f.b ∷ f.c ∷ f.d ∷ (payload ++ 0 ∷ []))
    ∙ ap (with_others records) (first_of_whole f.a f.b f.c f.d payload 0 [] f.count)
    ∙ ap (λ (l : List (List ℕ)). payload ∷ l) (too_short (0 ∷ []) (omega arith))

-- ---- a commit

module _ (file : List ℕ) (rests : IsAtRest file) where
  pub rest_length : length file ≡ end_of file + 1
  rest_length = omega (arith, ap length rests.closed, length-drop (end_of file) file)

  p : Parts file
  p = parts file (omega (arith, rest_length))

  rest_is : p.rest ≡ 0 ∷ []
  rest_is = sym p.back ∙ rests.closed

  header_marked : is_marked (take 16 file) ≡ true
  header_marked = sym (marked_as file (take 16 file) p.run (standing file) p.rest p.laid) ∙ rests.marked

  front : List ℕ
  front = take 16 file ++ p.run

  is_front : file ≡ front ++ 0 ∷ []
  unfolding front
  is_front = p.laid.is ∙ ap (λ (l : List ℕ). take 16 file ++ (p.run ++ l)) rest_is ∙ sym (append_assoc (take 16 file) p.run (0 ∷ []))

  front_length : length front ≡ end_of file
  unfolding front
  front_length = length-append (take 16 file) p.run ∙ ap (λ (n : ℕ). n + length p.run) p.laid.long ∙ sym p.end

  -- the same front with another rest
  laid_front : (c rest : List ℕ) → c ≡ front ++ rest → Laid c (take 16 file) p.run (standing file) rest
  unfolding front
  laid_front c rest is = record { is = is ∙ append_assoc (take 16 file) p.run rest; long = p.laid.long; whole = p.laid.whole }

  store_of : (c : List ℕ) (y : ℕ) (rest : List ℕ) (others : List (List ℕ)) → c ≡ front ++ y ∷ rest → records (y ∷ rest) ≡ others → IsStoreOf (standing file ++ others) c
  store_of c y rest others is are =
      let laid = laid_front c (y ∷ rest) is in
      record {
        stands_for = stands c (take 16 file) p.run (standing file) y rest laid ∙ ap (λ (l : List (List ℕ)). standing file ++ l) are;
        header = good_header c (marked_as c (take 16 file) p.run (standing file) (y ∷ rest) laid ∙ header_marked);
      }

  as_before : (c : List ℕ) (y : ℕ) (rest : List ℕ) → c ≡ front ++ y ∷ rest → records (y ∷ rest) ≡ [] → IsStoreOf (standing file) c
  as_before c y rest is nothing = subst (λ (l : List (List ℕ)). IsStoreOf l c) (append-nil (standing file)) (store_of c y rest [] is nothing)

  -- it is a store of its records
  pub rest_store : IsStoreOf (standing file) file
  rest_store = as_before file 0 [] is_front (too_short (0 ∷ []) (omega arith))

  -- while the frame is written behind the gate, the records are those before
  pub behind_gate : (count : ℕ) (c : List ℕ) → Extends file count c → IsStoreOf (standing file) c
  behind_gate count c more =
      let added = drop (length file) c in
      let is : c ≡ front ++ 0 ∷ added =
      sym (take-append-drop (length file) c) ∙ ap (λ (l : List ℕ). l ++ added) (more.begins ∙ is_front) ∙ append_assoc front (0 ∷ []) added in
      as_before c 0 added is (closed_gate 0 added (λ is. cc is))

  module _ (payload : List ℕ) (fits : length payload < 2 ^ 32) where
    f : Framed payload
    f = framed payload fits

    staged : List ℕ
    staged = file ++ frame payload

    staged_is : staged ≡ front ++ 0 ∷ frame payload
    unfolding staged
    staged_is = ap (λ (l : List ℕ). l ++ frame payload) is_front ∙ append_assoc front (0 ∷ []) (frame payload)

    with_gate : (gate : ℕ) → with_byte staged (end_of file) gate ≡ front ++ gate ∷ frame payload
    with_gate gate =
        let before : take (end_of file) staged ≡ front = ap (take (end_of file)) staged_is ∙ take_at front (0 ∷ frame payload) (end_of file) front_length in
        let after_one : staged ≡ (front ++ 0 ∷ []) ++ frame payload = staged_is ∙ sym (append_assoc front (0 ∷ []) (frame payload)) in
        let one : length (front ++ 0 ∷ []) ≡ end_of file + 1 = length-append front (0 ∷ []) ∙ ap (λ (n : ℕ). n + 1) front_length in
        let behind : drop (end_of file + 1) staged ≡ frame payload = ap (drop (end_of file + 1)) after_one ∙ drop_at (front ++ 0 ∷ []) (frame payload) (end_of file + 1) one in
        ap (λ (l : List ℕ). l ++ gate ∷ drop (end_of file + 1) staged) before ∙ ap (λ (l : List ℕ). front ++ gate ∷ l) behind

    -- while the gate is written, they are those before or these with the new one
    pub at_gate : (c : List ℕ) → HasSomeByteAt (file ++ frame payload) (end_of file) c → IsStoreOf (standing file) c ⊎ IsStoreOf (standing file ++ payload ∷ []) c
    unfolding staged
    at_gate c has = by_gate (cases_eq has.0 1)
      where
        is : c ≡ front ++ has.0 ∷ frame payload
        is = has.1 ∙ with_gate has.0

        by_gate : (has.0 ≡ 1) ⊎ (has.0 ≡ 1 → ⊥) → IsStoreOf (standing file) c ⊎ IsStoreOf (standing file ++ payload ∷ []) c
        by_gate (inl open_) = inr (store_of c has.0 (frame payload) (payload ∷ []) is (ap (λ (g : ℕ). records (g ∷ frame payload)) open_ ∙ opened payload f))
        by_gate (inr closed) = inl (as_before c has.0 (frame payload) is (closed_gate has.0 (frame payload) closed))

    -- with the open gate the file is at rest again, with the new record
    pub committed : (c : List ℕ) → c ≡ with_byte (file ++ frame payload) (end_of file) 1 → IsAtRest c × (standing c ≡ standing file ++ payload ∷ []) × (length c ≡ length file + 5 + length payload)
    unfolding staged
    committed c has =
        let is : c ≡ front ++ 1 ∷ frame payload = has ∙ with_gate 1 in
        let run = p.run ++ 1 ∷ f.a ∷ f.b ∷ f.c ∷ f.d ∷ payload in
        let head = take 16 file in
        let laid : Laid c head run (standing file ++ payload ∷ []) (0 ∷ []) = record {
          is = (laid_front c (1 ∷ frame payload) is).is ∙ ap (λ (l : List ℕ). head ++ (p.run ++ 1 ∷ l)) f.is ∙ ap (λ (l : List ℕ). head ++ l) (sym (append_assoc p.run (1 ∷ f.a ∷ f.b ∷ f.c ∷ f.d ∷ payload) (0 ∷ [])));
          long = p.laid.long;
          whole = run_and_one (standing file) p.run f.a f.b f.c f.d payload p.laid.whole f.count;
        } in
        let both = laid_at_rest c head run (standing file ++ payload ∷ []) laid header_marked in
        let size : length c ≡ length front + suc (length (frame payload)) = ap length is ∙ length-append front (1 ∷ frame payload) in
        let frame_size : length (frame payload) ≡ 5 + length payload = omega (arith, ap length f.is, length-append payload (0 ∷ [])) in
        (both.0, both.1, omega (arith, size, frame_size, front_length, rest_length))

-- ---- an opening

-- where no record stands, none stands while the file is cut to nothing
pub cut_to_nothing : (file c : List ℕ) → standing file ≡ [] → Shortened 0 file c → IsSameStore file c
cut_to_nothing file c none (inl is) = subst (λ (l : List ℕ). IsSameStore file l) (sym is) (record { same = refl; header = refl })
cut_to_nothing file c none (inr is) = same_where_none file c none (nothing_stands c (omega (arith, ap length is)))

-- and none while the header is written
pub header_written : (file nothing c : List ℕ) → standing file ≡ [] → nothing ≡ [] → Extends nothing 17 c → IsSameStore file c
header_written file nothing c none is more = same_where_none file c none (nothing_stands c (omega (arith, more.no_longer, ap length is)))

-- the header of a file without records, and its closed gate
abbrev pub first_bytes : List ℕ
first_bytes = codes "APSTORE1\0\0\0\0\0\0\0\u{1}\0"

-- it is at rest, and stands for no record
pub begun_file : (nothing c : List ℕ) → nothing ≡ [] → c ≡ nothing ++ first_bytes → IsAtRest c × (standing c ≡ []) × (length c ≡ 17)
begun_file nothing c is has =
    let whole : c ≡ first_bytes = has ∙ ap (λ (l : List ℕ). l ++ first_bytes) is in
    let laid : Laid c (take 16 first_bytes) [] [] (0 ∷ []) = record { is = whole; long = refl; whole = Rattle.ap_journal.proofs.Standing.none } in
    let both = laid_at_rest c (take 16 first_bytes) [] [] laid refl in
    (both.0, both.1, ap length whole)

module _ (file : List ℕ) (long : 16 ≤ length file) where
  q : Parts file
  q = parts file long

  -- the front of a file whose records end before its own end
  start : List ℕ
  start = take 16 file ++ q.run

  start_length : length start ≡ end_of file
  unfolding start
  start_length = length-append (take 16 file) q.run ∙ ap (λ (n : ℕ). n + length q.run) q.laid.long ∙ sym q.end

  file_is : file ≡ start ++ q.rest
  unfolding start
  file_is = q.laid.is ∙ sym (append_assoc (take 16 file) q.run q.rest)

  laid_start : (c rest : List ℕ) → c ≡ start ++ rest → Laid c (take 16 file) q.run (standing file) rest
  unfolding start
  laid_start c rest is = record { is = is ∙ append_assoc (take 16 file) q.run rest; long = q.laid.long; whole = q.laid.whole }

  -- one byte behind the records
  same_records : (c : List ℕ) (gate : ℕ) → c ≡ start ++ gate ∷ [] → IsSameStore file c
  same_records c gate is =
      let laid = laid_start c (gate ∷ []) is in
      let same : standing c ≡ standing file = stands c (take 16 file) q.run (standing file) gate [] laid ∙ ap (λ (l : List (List ℕ)). standing file ++ l) (too_short (gate ∷ []) (omega arith)) ∙ append-nil (standing file) in
      let mark : is_marked c ≡ is_marked file = marked_as c (take 16 file) q.run (standing file) (gate ∷ []) laid ∙ sym (marked_as file (take 16 file) q.run (standing file) q.rest q.laid) in
      record { same = same; header = same_header file c same mark }

  take_start : (gate : ℕ) (rest : List ℕ) → q.rest ≡ gate ∷ rest → take (end_of file + 1) file ≡ start ++ gate ∷ []
  take_start gate rest is =
      let whole : file ≡ (start ++ gate ∷ []) ++ rest = file_is ∙ ap (λ (l : List ℕ). start ++ l) is ∙ sym (append_assoc start (gate ∷ []) rest) in
      let one : length (start ++ gate ∷ []) ≡ end_of file + 1 = length-append start (gate ∷ []) ∙ ap (λ (n : ℕ). n + 1) start_length in
      ap (take (end_of file + 1)) whole ∙ take_at (start ++ gate ∷ []) rest (end_of file + 1) one

  -- the cut file is the start and one byte, where the records end before the file does
  cut_is : end_of file < length file → (gate : ℕ) × (take (end_of file + 1) file ≡ start ++ gate ∷ [])
  cut_is before = by_rest q.rest refl
    where
      by_rest : (rest : List ℕ) → q.rest ≡ rest → (gate : ℕ) × (take (end_of file + 1) file ≡ start ++ gate ∷ [])
      by_rest [] is = absurd (omega (arith, before, ap length file_is, length-append start q.rest, ap length is, start_length))
      by_rest (gate ∷ rest) is = (gate, take_start gate rest is)

  -- the records stay while the file is cut behind them
  pub cut_behind : (c : List ℕ) → end_of file < length file → Shortened (end_of file + 1) file c → IsSameStore file c
  cut_behind c before (inl is) = subst (λ (l : List ℕ). IsSameStore file l) (sym is) (record { same = refl; header = refl })
  cut_behind c before (inr is) = let cut = cut_is before in same_records c cut.0 (is ∙ cut.1)

  closed : (cut : List ℕ) (gate : ℕ) → end_of file < length file → cut ≡ take (end_of file + 1) file → with_byte cut (end_of file) gate ≡ start ++ gate ∷ []
  closed cut gate before is =
      let had = cut_is before in
      let whole : cut ≡ start ++ had.0 ∷ [] = is ∙ had.1 in
      let one : length (start ++ had.0 ∷ []) ≡ end_of file + 1 = length-append start (had.0 ∷ []) ∙ ap (λ (n : ℕ). n + 1) start_length in
      let head : take (end_of file) cut ≡ start = ap (take (end_of file)) whole ∙ take_at start (had.0 ∷ []) (end_of file) start_length in
      let tail : drop (end_of file + 1) cut ≡ [] =
      ap (drop (end_of file + 1)) (whole ∙ sym (append-nil (start ++ had.0 ∷ []))) ∙ drop_at (start ++ had.0 ∷ []) [] (end_of file + 1) one in
      ap (λ (l : List ℕ). l ++ gate ∷ drop (end_of file + 1) cut) head ∙ ap (λ (l : List ℕ). start ++ gate ∷ l) tail

  -- and while the gate behind them is written
  pub gate_behind : (cut c : List ℕ) → end_of file < length file → cut ≡ take (end_of file + 1) file → HasSomeByteAt cut (end_of file) c → IsSameStore file c
  gate_behind cut c before is has = same_records c has.0 (has.1 ∙ closed cut has.0 before is)

  rest_behind : (c : List ℕ) → c ≡ start ++ 0 ∷ [] → is_marked file ≡ true → IsAtRest c × (standing c ≡ standing file) × (length c ≡ end_of file + 1)
  rest_behind c is mark =
      let laid = laid_start c (0 ∷ []) is in
      let both = laid_at_rest c (take 16 file) q.run (standing file) laid (sym (marked_as file (take 16 file) q.run (standing file) q.rest q.laid) ∙ mark) in
      (both.0, both.1, ap length is ∙ length-append start (0 ∷ []) ∙ ap (λ (n : ℕ). n + 1) start_length)

  -- then the file is at rest
  pub cleaned : (cut c : List ℕ) → end_of file < length file → cut ≡ take (end_of file + 1) file → c ≡ with_byte cut (end_of file) 0 → is_marked file ≡ true
      → IsAtRest c × (standing c ≡ standing file) × (length c ≡ end_of file + 1)
  cleaned cut c before is has mark = rest_behind c (has ∙ closed cut 0 before is) mark

  -- as a file is that ends with the closed gate
  pub clean : end_of file + 1 ≡ length file → drop (end_of file) file ≡ 0 ∷ [] → is_marked file ≡ true → IsAtRest file
  clean ends gate mark = record { closed = gate; marked = mark }
