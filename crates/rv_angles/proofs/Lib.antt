-- Powers of w, entries, gates on one qubit, gates on more, and each form.
mod Powers
mod Entries
mod Turns
mod Pairs
mod Laws
mod Decimals
mod Examples
