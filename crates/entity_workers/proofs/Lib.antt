pub mod StoreRows
