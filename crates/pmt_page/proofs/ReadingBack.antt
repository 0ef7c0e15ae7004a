-- What reads the events back from what the columns write: letters, numbers and bytes.
use Rattle.pmt_page.proofs.Prelude.{◌≡◌, ℕ, ◌==◌, if◌then◌else◌, true, List, [], ◌∷◌, ◌++◌, length, get_or, take, drop, refl, ap, ◌∙◌, flat_map, take-append_seam, drop-append_seam, Event, Op, Store, Clwb, ClflushOpt, Clflush, Sfence, Mfence, IsPersist, IsOrderedBefore, Thread, Address, Length, SecondAddress, SecondLength, op_letter, op_column, numbers_of, first_address, first_length, second_address, second_length, stored_bytes}

-- The op with this letter, whose numbers and bytes stand first.
abbrev op_back : ℕ → List ℕ → List ℕ → List ℕ → List ℕ → List ℕ → Op
op_back c xs ls bs ms bytes =
    if c == 83 then Store (record { addr = get_or xs 0 0; bytes = take (get_or ls 0 0) bytes })
    else (if c == 67 then Clwb (get_or xs 0 0)
    else (if c == 79 then ClflushOpt (get_or xs 0 0)
    else (if c == 70 then Clflush (get_or xs 0 0)
    else (if c == 115 then Sfence
    else (if c == 109 then Mfence
    else (if c == 80 then IsPersist (record { addr = get_or xs 0 0; len = get_or ls 0 0 })
    else IsOrderedBefore (record { addr = get_or xs 0 0; len = get_or ls 0 0 }) (record { addr = get_or bs 0 0; len = get_or ms 0 0 })))))))

-- The events with these letters, threads, numbers and bytes.
abbrev pub read_back : List ℕ → List ℕ → List ℕ → List ℕ → List ℕ → List ℕ → List ℕ → List Event
read_back [] ts xs ls bs ms bytes = []
read_back (c ∷ cs) ts xs ls bs ms bytes =
    record { thread = get_or ts 0 0; op = op_back c xs ls bs ms bytes }
    ∷ read_back cs (drop 1 ts)
    (drop (length (first_address true (op_back c xs ls bs ms bytes))) xs)
    (drop (length (first_length true (op_back c xs ls bs ms bytes))) ls)
    (drop (length (second_address true (op_back c xs ls bs ms bytes))) bs)
    (drop (length (second_length true (op_back c xs ls bs ms bytes))) ms)
    (drop (length (stored_bytes (op_back c xs ls bs ms bytes))) bytes)

-- one event is read, and the rest is that of the others
read-event : (t : ℕ) (op : Op) (cs ts xs ls bs ms bytes : List ℕ) →
    read_back (op_letter op ∷ cs) (t ∷ ts) (first_address true op ++ xs) (first_length true op ++ ls) (second_address true op ++ bs) (second_length true op ++ ms) (stored_bytes op ++ bytes)
    ≡ record { thread = t; op = op } ∷ read_back cs ts xs ls bs ms bytes
read-event t (Store w) cs ts xs ls bs ms bytes =
    ap (λ (some : List ℕ). record { thread = t; op = Store (record { addr = w.addr; bytes = some }) } ∷ read_back cs ts xs ls bs ms (drop (length some) (w.bytes ++ bytes))) (take-append_seam w.bytes bytes)
    ∙ ap (λ (rest : List ℕ). record { thread = t; op = Store w } ∷ read_back cs ts xs ls bs ms rest) (drop-append_seam w.bytes bytes)
read-event t op cs ts xs ls bs ms bytes = refl

pub read-events : (es : List Event) →
    read_back (op_column es) (flat_map (numbers_of true Thread) es) (flat_map (numbers_of true Address) es) (flat_map (numbers_of true Length) es)
    (flat_map (numbers_of true SecondAddress) es) (flat_map (numbers_of true SecondLength) es) (flat_map (λ e. stored_bytes e.op) es) ≡ es
read-events [] = refl
read-events (e ∷ es) =
    read-event e.thread e.op (op_column es) (flat_map (numbers_of true Thread) es) (flat_map (numbers_of true Address) es) (flat_map (numbers_of true Length) es)
    (flat_map (numbers_of true SecondAddress) es) (flat_map (numbers_of true SecondLength) es) (flat_map (λ e. stored_bytes e.op) es)
    ∙ ap (λ (others : List Event). e ∷ others) (read-events es)
